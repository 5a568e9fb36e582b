-- The bytes of a number, written from the first one on: those from the i-th on are the bytes of a rest, of which the next is the lowest.
-- Assumes nothing.
use Prim.Native.Nat.{ℕ, suc, ◌+◌, ◌-◌, ◌/◌, ◌%◌, ◌<◌}
use native.Mathlib.Nat.{sub-zero}
use native.Mathlib.Numerals.{add-one}
use native.Mathlib.Omega.{arith}
use mathlib.Core.List.{◌∷◌}
use mathlib.Core.Path.{◌≡◌, ◌∙◌}
use lib.ListN.{drop, get_or}
use lib.Seq.{drop-cons}
use Rattle.octets.specs.Octets.{bytes_of}
use Rattle.octets.proofs.RoundTrip.{length_bytes}

-- the bytes of v from the i-th on are those of the rest
abbrev pub Rest : ℕ → ℕ → ℕ → ℕ → Type 0
Rest n v i rest = drop i (bytes_of n v) ≡ bytes_of (n - i) rest

module _ (n v : ℕ) where
  pub rest_none : Rest n v 0 v
  rest_none = rw sub-zero

  pub rest_next : (i rest : ℕ) → Rest n v i rest → i < n → (rest % 256 ≡ get_or (bytes_of n v) i 0) × Rest n v (i + 1) (rest / 256)
  unfolding bytes_of
  rest_next i rest so_far more =
      let left : n - i ≡ suc (n - (i + 1)) = omega arith in
      let next : drop i (bytes_of n v) ≡ rest % 256 ∷ bytes_of (n - (i + 1)) (rest / 256) = so_far ∙ rw left in
      let opened = drop-cons (bytes_of n v) i 0 (omega (arith, length_bytes n v)) in
      (cc, cc (add-one i))
