-- Division to the nearest whole number, an exact half going to the even neighbour: what it is by the distance from the exact quotient,
-- and that this determines it. Assumes nothing.
use Rattle.std.proofs.Common.{◌≡◌, ℕ, suc, ◌+◌, ◌*◌, ◌/◌, ◌%◌, ◌<◌, ◌≤◌, cond, ◌&&◌, ◌||◌, eqb, ltb, ◌⊎◌, refl, inl, inr, ⊎_elim, mul-le-mul_right, mod-lt, suc-mul, div-add-mod', arith, le-ltb, lt-ltb, eq-eqb, ne_eqb}
use Rattle.word.specs.Word.{nearest}
use Rattle.word.proofs.Tests.{by_leb, by_eqb}

-- n is x by y: twice its distance from the exact quotient, on either side and times y, is at most y; where it is y, n is even
pub record Nearest (x y n : ℕ) : Type 0 where
  pub below : 2 * x ≤ 2 * (n * y) + y
  pub above : 2 * (n * y) ≤ 2 * x + y
  pub even : (2 * x ≡ 2 * (n * y) + y) ⊎ (2 * (n * y) ≡ 2 * x + y) → n % 2 ≡ 0

-- 5 by 2 is 2, 7 by 2 is 4, 1 by 2 is 0
pub worked_examples : (nearest 5 2 ≡ 2) × (nearest 7 2 ≡ 4) × (nearest 1 2 ≡ 0)
unfolding nearest
worked_examples = (refl, refl, refl)

module _ (x y : ℕ) where
  -- it rounds up where the rest is past the half, or just the half of an odd quotient, and only there
  pub rounds_up : y < 2 * (x % y) + x / y % 2 → nearest x y ≡ suc (x / y)
  unfolding nearest
  rounds_up h =
      by_eqb (λ t. cond (ltb y (2 * (x % y)) || (t && eqb (x / y % 2) 1)) (suc (x / y)) (x / y) ≡ suc (x / y)) y (2 * (x % y))
      (λ half. rw (le-ltb y (2 * (x % y)) (omega arith), eq-eqb (x / y % 2) 1 (omega arith)))
      (λ other. rw (lt-ltb y (2 * (x % y)) (omega arith)))

  pub rounds_down : 2 * (x % y) + x / y % 2 ≤ y → nearest x y ≡ x / y
  unfolding nearest
  rounds_down h =
      by_eqb (λ t. cond (ltb y (2 * (x % y)) || (t && eqb (x / y % 2) 1)) (suc (x / y)) (x / y) ≡ x / y) y (2 * (x % y))
      (λ half. rw (le-ltb y (2 * (x % y)) (omega arith), ne_eqb (x / y % 2) 1 (λ odd. absurd (omega arith))))
      (λ other. rw (le-ltb y (2 * (x % y)) (omega arith)))

  module _ (pos : 0 < y) where
    -- the answer is such a number
    pub nearest_is : Nearest x y (nearest x y)
    nearest_is =
        let whole = div-add-mod' x y in
        let rest = mod-lt x pos in
        let next = suc-mul (x / y) y in
        by_leb (λ t. Nearest x y (nearest x y)) (2 * (x % y) + x / y % 2) y
        (λ down. rw (rounds_down down) (record {
          below = omega arith;
          above = omega arith;
          even = ⊎_elim (λ e. omega arith) (λ e. omega arith);
        }))
        (λ up. rw (rounds_up up) (record {
          below = omega arith;
          above = omega arith;
          even = ⊎_elim (λ e. omega arith) (λ e. omega arith);
        }))

    -- a lower number is not such a one too
    apart : {m n : ℕ} → Nearest x y m → Nearest x y n → m < n → ⊥
    apart {m} {n} a b low =
        let next = suc-mul m y in
        let far = suc-mul (suc m) y in
        let least = mul-le-mul_right {m = suc m} {n = n} y low in
        by_leb (λ t. ⊥) (suc (suc m)) n
        (λ more. let beyond = mul-le-mul_right {m = suc (suc m)} {n = n} y more in omega (arith, a.below, b.above))
        (λ same.
        let half : 2 * x ≡ 2 * (m * y) + y = omega (arith, a.below, b.above) in
        let half' : 2 * (n * y) ≡ 2 * x + y = omega (arith, a.below, b.above) in
        omega (arith, a.even (inl half), b.even (inr half')))

    -- so there is no other
    pub nearest_only : {n : ℕ} → Nearest x y n → n ≡ nearest x y
    nearest_only {n} a =
        by_leb (λ t. n ≡ nearest x y) n (nearest x y)
        (λ low. by_leb (λ t. n ≡ nearest x y) (nearest x y) n (λ high. omega arith) (λ less. absurd (apart a nearest_is less)))
        (λ less. absurd (apart nearest_is a less))
