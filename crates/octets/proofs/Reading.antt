-- The number of bytes, read from the last one on. Assumes nothing.
use Prim.Native.Nat.{ℕ, suc, ◌+◌, ◌-◌, ◌*◌, ◌^◌, ◌≤◌, ◌<◌}
use native.Mathlib.Nat.{pow-suc, pow-le-pow_right, sub_self}
use native.Mathlib.Omega.{arith}
use mathlib.Core.List.{List, ◌∷◌}
use mathlib.Core.Path.{◌≡◌, ap, ◌∙◌}
use lib.ListN.{length, take, drop, get_or}
use lib.Seq.{drop-cons}
use Rattle.octets.specs.Octets.{low_first}

-- the number of the bytes from left on, of the n from a place on
pub record Low (bytes : List ℕ) (at n left number : ℕ) : Type 0 where
  pub few : left ≤ n
  pub is : number ≡ low_first (take (n - left) (drop (at + left) bytes))
  pub small : number < 256 ^ (n - left)

pub low_none : (bytes : List ℕ) (at n : ℕ) → Low bytes at n n 0
unfolding low_first
low_none bytes at n = record { few = omega arith; is = rw (sub_self n); small = rw (sub_self n) (omega arith) }

-- the byte before them
module _ {bytes : List ℕ} {at n left number : ℕ} (low : Low bytes at n left number) (some : 0 < left) where
  below : (x : ℕ) → x < 256 → number * 256 + x < 256 ^ suc (n - left)
  below x byte = omega (arith, low.small, pow-suc 256 (n - left))

  pub low_fits : n ≤ 8 → (x : ℕ) → x < 256 → number * 256 + x < 2 ^ 64
  low_fits most x byte =
      let high : 256 ^ suc (n - left) ≤ 256 ^ 8 = pow-le-pow_right {n = 256} (omega arith) {i = suc (n - left)} {j = 8} (omega (arith, low.few)) in
      omega (arith, below x byte)

  pub low_next : at + n ≤ length bytes → get_or bytes (at + (left - 1)) 0 < 256
      → Low bytes at n (left - 1) (number * 256 + get_or bytes (at + (left - 1)) 0)
  unfolding low_first
  low_next long byte =
      let more : n - (left - 1) ≡ suc (n - left) = omega (arith, low.few) in
      let next : suc (at + (left - 1)) ≡ at + left = omega arith in
      let opened : drop (at + (left - 1)) bytes ≡ get_or bytes (at + (left - 1)) 0 ∷ drop (at + left) bytes =
      drop-cons bytes (at + (left - 1)) 0 (omega (arith, low.few)) ∙ ap (λ (m : ℕ). get_or bytes (at + (left - 1)) 0 ∷ drop m bytes) next in
      record {
        few = omega (arith, low.few);
        is = omega (arith, low.is, ap low_first (ap (λ (m : ℕ). take m (drop (at + (left - 1)) bytes)) more ∙ ap (take (suc (n - left))) opened));
        small = rw more (below _ byte);
      }

pub low_all : (bytes : List ℕ) (at n left number : ℕ) → Low bytes at n left number → left ≡ 0 → number ≡ low_first (take n (drop at bytes))
low_all bytes at n left number low none =
    let all : n - 0 ≡ n = omega arith in
    let same : at + 0 ≡ at = omega arith in
    low.is
    ∙ ap (λ (m : ℕ). low_first (take (n - m) (drop (at + m) bytes))) none
    ∙ ap (λ (m : ℕ). low_first (take m (drop (at + 0) bytes))) all
    ∙ ap (λ (m : ℕ). low_first (take n (drop m bytes))) same
