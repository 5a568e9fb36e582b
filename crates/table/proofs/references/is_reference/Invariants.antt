use Prim.Native.Nat.{ℕ, suc, ◌<◌, ◌^◌}
use mathlib.Core.Path.{◌≡◌}
use Rattle.table.specs.Reference.{is_reference}
use Rattle.table.proofs.Digits.{well_named}
use Rattle.table.proofs.references.is_reference.Given as goal

abbrev pub invariant-loop-rest : goal.invariant-loop-rest
invariant-loop-rest l = (k : ℕ) × (is_reference l.v ≡ well_named k l.rest) × (l.rest < 64 ^ suc k)

abbrev pub decreases-loop-rest : goal.decreases-loop-rest
decreases-loop-rest l = l.rest
