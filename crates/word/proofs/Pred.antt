-- A positive number and one less. Assumes nothing.
use Rattle.std.proofs.Common.{◌≡◌, ℕ, zero, suc, ◌+◌, ◌-◌, ◌*◌, ◌<◌, sym, subst, sub-one, arith}

-- what holds of each number and the one before it holds of a positive number and one less
pub one_less : (P : ℕ → ℕ → Type 0) → ((j : ℕ) → P (suc j) j) → (k : ℕ) → 0 < k → P k (k - 1)
one_less P f zero h = absurd (omega arith)
one_less P f (suc j) h = subst (λ (i : ℕ). P (suc j) i) (sym (sub-one (suc j))) (f j)

-- so many times n is n more than one time less
pub times_pred : (n left : ℕ) → 0 < left → left * n ≡ (left - 1) * n + n
times_pred n = one_less (λ left less. left * n ≡ less * n + n) (λ less. omega arith)
