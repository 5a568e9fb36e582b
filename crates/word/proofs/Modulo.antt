-- Laws of arithmetic modulo 2 ^ b: after a wrap at 64 bits, and of a product on halves. Assumes nothing.
use Rattle.std.proofs.Common.{◌≡◌, ℕ, ◌+◌, ◌-◌, ◌*◌, ◌/◌, ◌%◌, ◌^◌, ◌<◌, ◌≤◌, sym, ap, ◌∙◌, ap₂, lt_of_lt_of_le, lt_of_le_of_lt, le_of_lt, mul-le-mul_left, div-add-mod', sub-add_cancel, arith, pow_mono, pow-add, shl_lt}
use native.Mathlib.Nat.{mul-add-mod_self_right}
use lib.Pow.{mod-mod-pow}

-- a remainder by a smaller power after one by a larger
pub mod_mod_le : (n : ℕ) {b m : ℕ} → b ≤ m → n % 2 ^ m % 2 ^ b ≡ n % 2 ^ b
mod_mod_le n {b} {m} h = ap (λ (k : ℕ). n % 2 ^ k % 2 ^ b) (sym (sub-add_cancel h)) ∙ mod-mod-pow n (m - b) b

-- a difference that wrapped at 64 bits and is not negative is itself
pub unwrapped : (x y r : ℕ) → y ≤ x → r < 2 ^ 64 → (r + y) % 2 ^ 64 ≡ x → r ≡ x - y
unwrapped x y r less small is =
    let whole = div-add-mod' (r + y) (2 ^ 64) in
    omega (arith, is, whole)

-- half a word shifted by the width of the other half, and the product of two halves: h is at most 31
module _ (h : ℕ) {a : ℕ} (g : h ≤ 31) (k : a < 2 ^ h) where
  pub shifted_lt : a * 2 ^ h < 2 ^ 62
  shifted_lt = lt_of_lt_of_le (shl_lt h h k) (pow_mono {j = 62} (omega arith))

  pub halves_lt : {c : ℕ} → c < 2 ^ h → a * c < 2 ^ 62
  halves_lt l = lt_of_le_of_lt (mul-le-mul_left a (le_of_lt l)) shifted_lt

module _ (m : ℕ) where
  -- the cross terms modulo m go by what is left of the high halves
  cross_mod : (a c p q : ℕ) → (a % m * q + p * (c % m)) % m ≡ (a * q + p * c) % m
  cross_mod a c p q =
      let s = div-add-mod' a m in
      let t = div-add-mod' c m in
      let e : (a / m * q + p * (c / m)) * m + (a % m * q + p * (c % m)) ≡ (a / m * m + a % m) * q + p * (c / m * m + c % m) = omega arith in
      sym (mul-add-mod_self_right (a / m * q + p * (c / m)) m (a % m * q + p * (c % m))) ∙ ap (λ (n : ℕ). n % m) (rw (s, t) at e)

  -- a product on halves: the product of the high halves lies above
  product_mod : (x y : ℕ) → ((x / m % m * (y % m) + x % m * (y / m % m)) % m * m + x % m * (y % m)) % (m * m) ≡ x * y % (m * m)
  product_mod x y =
      let a = x / m in
      let p = x % m in
      let c = y / m in
      let q = y % m in
      let s = a * q + p * c in
      let parts : (a * c + s / m) * (m * m) + (s % m * m + p * q) ≡ a * c * (m * m) + (s / m * m + s % m) * m + p * q = omega arith in
      let whole : a * c * (m * m) + s * m + p * q ≡ (a * m + p) * (c * m + q) = omega arith in
      let e : (a * c + s / m) * (m * m) + (s % m * m + p * q) ≡ x * y =
      parts ∙ rw (div-add-mod' s m) whole ∙ ap₂ (λ (k n : ℕ). k * n) (div-add-mod' x m) (div-add-mod' y m) in
      rw (cross_mod a c p q) (sym (mul-add-mod_self_right (a * c + s / m) (m * m) (s % m * m + p * q)) ∙ ap (λ (n : ℕ). n % (m * m)) e)

-- the same on halves of h bits, for a word of at most twice h
pub halves_product : (b h x y : ℕ) → b ≤ h + h
    → ((x / 2 ^ h % 2 ^ h * (y % 2 ^ h) + x % 2 ^ h * (y / 2 ^ h % 2 ^ h)) % 2 ^ h * 2 ^ h + x % 2 ^ h * (y % 2 ^ h)) % 2 ^ b ≡ x * y % 2 ^ b
halves_product b h x y l = sym (mod_mod_le _ l) ∙ ap (λ (n : ℕ). n % 2 ^ b) (rw pow-add (product_mod (2 ^ h) x y)) ∙ mod_mod_le (x * y) l
