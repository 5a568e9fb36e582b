use Prim.Native.Nat.{◌/◌, ◌^◌}
use mathlib.Core.Path.{◌≡◌}
use Rattle.columns.specs.Packing.{unpacked}
use Rattle.word.proofs.Filling.{Fills}
use Rattle.columns.proofs.put_bytes.Given as goal

abbrev pub invariant-loop-i : goal.invariant-loop-i
invariant-loop-i l =
    (l.rest ≡ l.all / 256 ^ l.i) × Fills l.to l.n (unpacked l.n l.all) l.initial.bytes l.bytes l.i
