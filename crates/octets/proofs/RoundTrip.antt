-- A number comes back from its bytes, and bytes from their number. Assumes nothing.
use Prim.Native.Nat.{ℕ, zero, suc, ◌/◌, ◌^◌, ◌<◌}
use native.Mathlib.Nat.{pow-suc}
use native.Mathlib.Omega.{arith}
use mathlib.Core.Path.{◌≡◌, refl, ap}
use lib.ListN.{length}
use Rattle.octets.specs.Octets.{low_first, bytes_of}

-- a number has as many bytes as are asked for
pub length_bytes : (n v : ℕ) → length (bytes_of n v) ≡ n
unfolding bytes_of
length_bytes zero v = refl
length_bytes (suc n) v = ap suc (length_bytes n (v / 256))

-- a number that n bytes hold comes back from them
pub number_of_bytes : (n v : ℕ) → v < 256 ^ n → low_first (bytes_of n v) ≡ v
unfolding bytes_of low_first
number_of_bytes zero v h = omega arith
number_of_bytes (suc n) v h =
    let fewer : v / 256 < 256 ^ n = omega (arith, pow-suc 256 n) in
    omega (arith, number_of_bytes n (v / 256) fewer)
