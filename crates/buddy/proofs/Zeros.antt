-- Bytes that are zero from a place on, as a loop finds out: those passed are joined by "or". Assumes nothing.
use Rattle.std.proofs.Common.{◌≡◌, ℕ, suc, ◌+◌, ◌-◌, ◌<◌, ◌≤◌, Bool, true, false, ◌&&◌, eqb, List, length, get_or, drop, replicate, refl, add-one, arith, drop_of_length-le, drop-cons, eq-eqb, ne_eqb}
use lib.Bits.{bit_or, or_add_and, and_le_l, and_le_r}
use Rattle.word.proofs.Tests.{by_eqb}
use Rattle.block.specs.Map.{same}
use Rattle.buddy.proofs.Parts.{and_assoc}

-- numbers that are joined are zero if both are
or_zero : (x y : ℕ) → eqb (bit_or x y) 0 ≡ (eqb x 0 && eqb 0 y)
or_zero x y =
    by_eqb (λ t. eqb (bit_or x y) 0 ≡ (t && eqb 0 y)) x 0
    (λ e. by_eqb (λ t. eqb (bit_or x y) 0 ≡ t) 0 y
    (λ f. eq-eqb (bit_or x y) 0 (omega (arith, or_add_and x y))) (λ f. ne_eqb (bit_or x y) 0 (λ g. f (omega (arith, or_add_and x y, and_le_l x y)))))
    (λ e. ne_eqb (bit_or x y) 0 (λ g. e (omega (arith, or_add_and x y, and_le_r x y))))

-- every byte from a place on is zero
abbrev pub zero_from : ℕ → List ℕ → Bool
zero_from i l = same (replicate (length l - i) 0) (drop i l)

always : (t : Bool) → (t && true) ≡ t
always true = refl
always false = refl

module _ (all i : ℕ) (l : List ℕ) where
  -- one byte more is joined
  pub zero_next : i < length l → (eqb all 0 && zero_from i l) ≡ (eqb (bit_or all (get_or l i 0)) 0 && zero_from (i + 1) l)
  unfolding same
  zero_next h =
      let more : length l - i ≡ suc (length l - suc i) = omega arith in
      rw (add-one, more, drop-cons l i 0 h, or_zero) (and_assoc (eqb all 0) (eqb 0 (get_or l i 0)) _)

  -- none is left
  pub zero_end : length l ≤ i → (eqb all 0 && zero_from i l) ≡ eqb all 0
  unfolding same
  zero_end h =
      let none : length l - i ≡ 0 = omega arith in
      rw (none, drop_of_length-le l h) (always (eqb all 0))
