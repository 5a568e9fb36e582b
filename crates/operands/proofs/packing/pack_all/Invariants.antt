use mathlib.Core.Path.{◌≡◌}
use lib.ListN.{length}
use Rattle.operands.specs.Packing.{unpacked_all}
use Rattle.word.proofs.Filling.{Fills}
use Rattle.operands.proofs.packing.pack_all.Given as goal

abbrev pub invariant-loop-i : goal.invariant-loop-i
invariant-loop-i l =
    (length l.fields ≡ 36) × Fills 0 36 l.definitions (unpacked_all l.initial.fields) (unpacked_all l.fields) l.i
