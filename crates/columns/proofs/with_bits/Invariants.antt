use Prim.Native.Nat.{◌/◌, ◌^◌}
use mathlib.Core.Path.{◌≡◌}
use Rattle.columns.specs.Packing.{longer}
use Rattle.word.proofs.Filling.{Fills}
use Rattle.columns.proofs.with_bits.Given as goal

abbrev pub invariant-loop-i : goal.invariant-loop-i
invariant-loop-i l = (l.rest ≡ l.all / 256 ^ l.i) × Fills 0 8 (longer l.group l.all) l.initial.made l.made l.i
