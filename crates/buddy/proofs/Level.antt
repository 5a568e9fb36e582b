-- The level of a number is the length of one less in bits: 64 without its leading zeros. Assumes nothing.
use Rattle.std.proofs.Common.{◌≡◌, ℕ, zero, suc, ◌+◌, ◌-◌, ◌^◌, ◌<◌, ◌≤◌, sym, refl, ◌∙◌, le_antisymm, arith}
use lib.Count.{count_leading_zeros, leading_length}
use borrow.Author.Tests.{lt-leb}
use Rattle.block.specs.Blocks.{size, level}
use Rattle.word.proofs.Tests.{by_leb}
use Rattle.block.proofs.Size.{size_zero, size_pow, size_mono, size_strict, level_fits_lem, level_least}

-- no word is held by the smallest block
pub level_none : (k n : ℕ) → n ≡ 0 → level k n ≡ 0
level_none k n e = let small = level_least k n {j = 0} (omega arith) (omega (arith, size_zero)) in omega arith

-- the least size that holds n
level_holds : (k n m : ℕ) → size m < n + n → m ≤ k → n ≤ size m → level k n ≡ m
level_holds k n m half h l =
    le_antisymm (level_least k n h l)
    (by_leb (λ _. m ≤ level k n) m (level k n) (λ s. s) (λ s. absurd (omega (arith, size_strict s, level_fits_lem k n (omega (arith, size_mono h))))))

-- all sizes are too small, but perhaps the last
level_last : (k n m : ℕ) → size m < n + n → k ≤ m → level k n ≡ k
unfolding level
level_last zero n m half h = refl
level_last (suc k) n m half h = rw (lt-leb n (size k) (omega (arith, size_strict h)))

module _ (k n : ℕ) (pos : 0 < n) (fits : n < 2 ^ 64) where
  -- the length m of one less
  length_less : (m : ℕ) × (m ≡ 64 - count_leading_zeros 64 (n - 1)) × (n ≤ size m) × (size m < n + n)
  length_less =
      let (m, sum, above, below) = leading_length 64 (n - 1) (omega arith) in
      (m, omega arith, rw (size_pow m) (omega arith), rw (size_pow m) (omega arith))

  -- it is the level, if that is not the last
  pub level_below : 64 - count_leading_zeros 64 (n - 1) < k → 64 - count_leading_zeros 64 (n - 1) ≡ level k n
  level_below h =
      let (m, e, above, below) = length_less in
      sym e ∙ sym (level_holds k n m below (omega arith) above)

  pub level_above : k ≤ 64 - count_leading_zeros 64 (n - 1) → k ≡ level k n
  level_above h =
      let (m, e, above, below) = length_less in
      sym (level_last k n m below (omega arith))
