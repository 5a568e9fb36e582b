-- Characters of octal 77, which an input without bytes gives: they are characters, and what they make. Assumes nothing.
use mathlib.Core.Bool.{true}
use mathlib.Core.Path.{◌≡◌, refl, ◌∙◌}
use Prim.Native.Nat.{ℕ, zero, suc, ◌+◌, ◌-◌, ◌*◌, ◌^◌}
use native.Mathlib.Nat.{pow-zero, pow-suc}
use native.Mathlib.Omega.{arith}
use lib.ListN.{replicate}
use Rattle.character.specs.Character.{number, packed, all_below}

pub ends_below : (n : ℕ) → all_below 64 (replicate n 0o77) ≡ true
unfolding all_below
ends_below zero = refl
ends_below (suc n) = ends_below n

ends_number : (m n : ℕ) → number 64 m (replicate n 0o77) ≡ (m + 1) * 64 ^ n - 1
unfolding number
ends_number m zero = rw (pow-zero 64) (omega arith)
ends_number m (suc n) = ends_number (m * 64 + 0o77) n ∙ rw (pow-suc 64 n) (omega arith)

pub ends_packed : (n : ℕ) → packed (replicate n 0o77) ≡ 64 ^ n - 1
unfolding packed
ends_packed n = ends_number 0 n ∙ omega arith
