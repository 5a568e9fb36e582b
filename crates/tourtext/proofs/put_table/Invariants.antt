use Prim.Native.Nat.{◌*◌}
use mathlib.Core.List.{◌++◌}
use lib.ListN.{length, drop}
use Rattle.tourtext.specs.Translation.{filed}
use Rattle.tourtext.proofs.Filing.{Filing}
use Rattle.tourtext.proofs.put_table.Given as goal

abbrev pub invariant-loop-i : goal.invariant-loop-i
invariant-loop-i l =
    Filing l.table (filed l.table ++ drop (8 * length l.table) l.initial.tab) (length l.initial.tab) l.i l.tab
