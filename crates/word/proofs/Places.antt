-- The bits of a field counted and found: the machine's counts on 64 bits give the definition's, corrected by the width. What is shown
-- of ones holds of zeros, by the complement, since a place depends on nothing but which bits are the one looked for. Assumes nothing.
use Rattle.std.proofs.Common.{◌≡◌, ℕ, zero, suc, ◌+◌, ◌-◌, ◌/◌, ◌%◌, ◌^◌, ◌<◌, ◌≤◌, Bool, cond, eqb, sym, refl, ap, ◌∙◌, ap₂, mod-lt, zero-lt-suc, div-lt_iff_lt-mul, le-div_iff_mul-le, div-one, add-one, one-add, arith, pow_pos, shr-shr, shr_lt}
use native.Mathlib.Nat.{mod-one}
use lib.Pow.{field, mod-mod-pow}
use lib.Count as Count
use lib.Count.{count_leading_zeros, count_trailing_zeros, under, ones_step, leading_of_zero, leading_unique}
use Rattle.word.specs.Word.{complement, ones, leftmost, rightmost_of, rightmost}
use Rattle.word.proofs.Field.{low_bit}

-- the ones among the w rightmost bits
pub ones_low : (w v : ℕ) → Count.ones (v % 2 ^ w) ≡ ones w v
unfolding ones
ones_low zero v = ap Count.ones (mod-one v) ∙ (unfold Count.ones Count.ones_in in refl)
ones_low (suc w) v =
    ap (λ (k : ℕ). Count.ones (v % 2 ^ k)) (sym (add-one w))
    ∙ ones_step (v % 2 ^ (w + 1))
    ∙ ap₂ (λ (m n : ℕ). m + n) (mod-mod-pow v w 1) (ap Count.ones (field v w 1) ∙ ones_low w (v / 2))

pub ones_le : (w v : ℕ) → ones w v ≤ w
unfolding ones
ones_le zero v = omega arith
ones_le (suc w) v = let i = ones_le w (v / 2) in omega arith

-- s stands in x where t stands in y, in each of the w rightmost places
abbrev Same : ℕ → ℕ → ℕ → ℕ → ℕ → Type 0
Same s t w x y = (k : ℕ) → k < w → eqb (x / 2 ^ k % 2) s ≡ eqb (y / 2 ^ k % 2) t

leftmost_same : (s t w x y : ℕ) → Same s t w x y → leftmost s w x ≡ leftmost t w y
unfolding leftmost
leftmost_same s t zero x y e = refl
leftmost_same s t (suc w) x y e =
    ap₂ (λ (c : Bool) (n : ℕ). cond c 0 (suc n)) (e w (omega arith)) (leftmost_same s t w x y (λ k h. e k (omega arith)))

rightmost_same : (s t w n x y : ℕ) → Same s t n x y → rightmost_of s w n x ≡ rightmost_of t w n y
unfolding rightmost_of
rightmost_same s t w zero x y e = refl
rightmost_same s t w (suc n) x y e =
    ap₂ (λ (c : Bool) (m : ℕ). cond c n m) (simp div-one at (e 0 (omega arith)))
    (rightmost_same s t w n (x / 2) (y / 2) (λ k h. rw (shr-shr x 1 k, shr-shr y 1 k) (e (1 + k) (omega arith))))

-- the bits of the complement are the other ones
flip : (w k u : ℕ) → k < w → u < 2 ^ w → (2 ^ w - suc u) / 2 ^ k % 2 ≡ 1 - u / 2 ^ k % 2
flip (suc w) zero u h l = simp div-one (omega arith)
flip (suc w) (suc k) u h l =
    let e : (2 ^ suc w - suc u) / 2 ≡ 2 ^ w - suc (u / 2) = omega arith in
    rw (← one-add k, ← shr-shr (2 ^ suc w - suc u) 1 k, ← shr-shr u 1 k, e) (flip w k (u / 2) (omega arith) (omega arith))
flip zero k u h l = absurd (omega arith)

other : (d : ℕ) → d < 2 → eqb (1 - d) 1 ≡ eqb d 0
other zero h = refl
other (suc zero) h = refl
other (suc (suc d)) h = absurd (omega arith)

module _ (w v : ℕ) where
  -- ones of the w rightmost bits
  low_same : Same 1 1 w (v % 2 ^ w) v
  low_same k h = ap (λ (n : ℕ). eqb n 1) (low_bit v k w h)

  -- ones of the complement are zeros
  flip_same : Same 1 0 w (complement w (v % 2 ^ w)) v
  unfolding complement
  flip_same k h =
      ap (λ (n : ℕ). eqb n 1) (flip w k (v % 2 ^ w) h (mod-lt v (pow_pos w)))
      ∙ other (v % 2 ^ w / 2 ^ k % 2) (mod-lt (v % 2 ^ w / 2 ^ k) (zero-lt-suc 1))
      ∙ ap (λ (n : ℕ). eqb n 0) (low_bit v k w h)

  pub leftmost_flip : leftmost 1 w (complement w (v % 2 ^ w)) ≡ leftmost 0 w v
  leftmost_flip = leftmost_same 1 0 w (complement w (v % 2 ^ w)) v flip_same

  pub rightmost_flip : rightmost 1 w (complement w (v % 2 ^ w)) ≡ rightmost 0 w v
  unfolding rightmost
  rightmost_flip = rightmost_same 1 0 w w (complement w (v % 2 ^ w)) v flip_same

-- the zeros left of a number of w bits among j + w
leading : (j w v : ℕ) → v < 2 ^ w → count_leading_zeros (j + w) v ≡ j + leftmost 1 w v
unfolding leftmost
leading j zero v h =
    let e : v ≡ 0 = omega arith in
    rw (e, leading_of_zero)
leading j (suc w) v h = go (v / 2 ^ w) refl (shr_lt 1 w (rw one-add h)) (leading (suc j) w v)
  where
    go : (d : ℕ) → v / 2 ^ w ≡ d → d < 2 → (v < 2 ^ w → count_leading_zeros (suc j + w) v ≡ suc j + leftmost 1 w v)
        → count_leading_zeros (j + suc w) v ≡ j + cond (eqb (d % 2) 1) 0 (suc (leftmost 1 w v))
    go zero e l i =
        let g = (div-lt_iff_lt-mul {x = v} {y = 1} (pow_pos w)).0 (omega arith) in
        ap (λ (n : ℕ). count_leading_zeros n v) (omega arith) ∙ i (omega arith) ∙ omega arith
    go (suc zero) e l i =
        let g = (le-div_iff_mul-le {x = 1} {y = v} (pow_pos w)).0 (omega arith) in
        sym (leading_unique (j + suc w) v j (suc w) refl h (omega arith)) ∙ omega arith
    go (suc (suc d)) e l i = absurd (omega arith)

-- the zeros right of a number's last one, and its place in a field of k bits
trailing : (x j k v : ℕ) → 0 < v → v < 2 ^ k → k ≤ j → rightmost_of 1 x k v + suc (count_trailing_zeros j v) ≡ k
unfolding rightmost_of count_trailing_zeros
trailing x j zero v p h l = absurd (omega arith)
trailing x zero (suc k) v p h l = absurd (omega arith)
trailing x (suc j) (suc k) v p h l = go (v % 2) refl (λ q. trailing x j k (v / 2) q (omega arith) (omega arith))
  where
    go : (d : ℕ) → v % 2 ≡ d → (0 < v / 2 → rightmost_of 1 x k (v / 2) + suc (count_trailing_zeros j (v / 2)) ≡ k)
        → cond (eqb d 1) k (rightmost_of 1 x k (v / 2)) + suc (under d (count_trailing_zeros j (v / 2))) ≡ suc k
    go zero e i = omega (arith, i (omega arith))
    go (suc zero) e i = omega arith
    go (suc (suc d)) e i = absurd (omega arith)

-- there is no one in 0
none : (x k : ℕ) → rightmost_of 1 x k 0 ≡ x
unfolding rightmost_of
none x zero = refl
none x (suc k) = none x k

module _ (w v : ℕ) where
  -- the leftmost one of a field, by the zeros left of it among 64 bits
  pub leftmost_one : w < 64 → count_leading_zeros 64 (v % 2 ^ w) ≡ 64 - w + leftmost 1 w v
  leftmost_one h =
      let e : 64 ≡ 64 - w + w = omega arith in
      ap (λ (n : ℕ). count_leading_zeros n (v % 2 ^ w)) e
      ∙ leading (64 - w) w (v % 2 ^ w) (mod-lt v (pow_pos w))
      ∙ ap (λ (n : ℕ). 64 - w + n) (leftmost_same 1 1 w (v % 2 ^ w) v (low_same w v))

  -- the rightmost one of a field that has ones, by the zeros right of it
  pub rightmost_one : w < 64 → 0 < v % 2 ^ w → rightmost 1 w v + suc (count_trailing_zeros 64 (v % 2 ^ w)) ≡ w
  unfolding rightmost
  rightmost_one h p =
      rw (← rightmost_same 1 1 w w (v % 2 ^ w) v (low_same w v)) (trailing w 64 w (v % 2 ^ w) p (mod-lt v (pow_pos w)) (omega arith))

  -- a field without ones
  pub rightmost_none : v % 2 ^ w ≡ 0 → rightmost 1 w v ≡ w
  unfolding rightmost
  rightmost_none e = rw (← rightmost_same 1 1 w w (v % 2 ^ w) v (low_same w v), e) (none w w)
