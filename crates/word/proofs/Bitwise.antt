-- The machine's operations on bits, kept to b bits, are the definition's, which goes by the pair of bits at each place. Assumes nothing.
use Rattle.std.proofs.Common.{◌≡◌, ℕ, zero, suc, ◌+◌, ◌*◌, ◌/◌, ◌%◌, ◌^◌, ◌<◌, min, max, ◌&&◌, ltb, refl, mod-lt, zero-lt-suc, add-one, arith, le-ltb, lt-ltb}
use native.Mathlib.Nat.{mod-one}
use lib.Pow.{mod-pow-add}
use lib.Bits.{bit_and, bit_or, bit_xor, differ, and_step, or_step, xor_step, and_le_l, and_le_r, or_lt, or_add_and}
use Rattle.word.specs.Word.{bitwise, either, both, differing}
use Rattle.word.proofs.Tests.{by_leb}

-- an operation that goes by its lowest bits, where f is g, and by the rest is the definition's
module _ (op f g : ℕ → ℕ → ℕ)
    (step : (x y : ℕ) → op x y ≡ op (x / 2) (y / 2) * 2 + f (x % 2) (y % 2))
    (same : (x y : ℕ) → x < 2 → y < 2 → (f x y ≡ g x y) × (g x y < 2)) where
  low_is : (b x y : ℕ) → op x y % 2 ^ b ≡ bitwise g b x y
  unfolding bitwise
  low_is zero x y = mod-one (op x y)
  low_is (suc b) x y =
      let u = same (x % 2) (y % 2) (mod-lt x (zero-lt-suc 1)) (mod-lt y (zero-lt-suc 1)) in
      let s = step x y in
      let rest : op x y / 2 ≡ op (x / 2) (y / 2) = omega arith in
      let last : op x y % 2 ≡ g (x % 2) (y % 2) = omega arith in
      let i = low_is b (x / 2) (y / 2) in
      rw (← add-one b, mod-pow-add (op x y) b 1, rest, last) (omega arith)

pub or_low : (b x y : ℕ) → bit_or x y % 2 ^ b ≡ either b x y
unfolding either
or_low = low_is bit_or max max or_step (λ x y h l. (refl, omega arith))

pub and_low : (b x y : ℕ) → bit_and x y % 2 ^ b ≡ both b x y
unfolding both
and_low = low_is bit_and min min and_step (λ x y h l. (refl, omega arith))

-- a number that two are joined to by "or" is below 2 ^ b if both are
pub or_below : (b x y : ℕ) → ltb (bit_or x y) (2 ^ b) ≡ (ltb x (2 ^ b) && ltb y (2 ^ b))
or_below b x y =
    by_leb (λ t. ltb (bit_or x y) (2 ^ b) ≡ (t && ltb y (2 ^ b))) (suc x) (2 ^ b)
    (λ h. by_leb (λ t. ltb (bit_or x y) (2 ^ b) ≡ t) (suc y) (2 ^ b)
    (λ l. lt-ltb (bit_or x y) (2 ^ b) (or_lt b x y h l)) (λ l. le-ltb (bit_or x y) (2 ^ b) (omega (arith, or_add_and x y, and_le_l x y))))
    (λ h. le-ltb (bit_or x y) (2 ^ b) (omega (arith, or_add_and x y, and_le_r x y)))

-- two bits differ where their sum is odd
odd : (x y : ℕ) → x < 2 → y < 2 → (differ x y ≡ (x + y) % 2) × ((x + y) % 2 < 2)
odd zero zero h l = (refl, omega arith)
odd zero (suc zero) h l = (refl, omega arith)
odd (suc zero) zero h l = (refl, omega arith)
odd (suc zero) (suc zero) h l = (refl, omega arith)
odd zero (suc (suc y)) h l = absurd (omega arith)
odd (suc zero) (suc (suc y)) h l = absurd (omega arith)
odd (suc (suc x)) y h l = absurd (omega arith)

pub xor_low : (b x y : ℕ) → bit_xor x y % 2 ^ b ≡ differing b x y
unfolding differing
xor_low = low_is bit_xor differ (λ x y. (x + y) % 2) xor_step odd
