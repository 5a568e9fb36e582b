use lib.ListN.{take, drop}
use Rattle.columns.specs.Columns.{filled_up}
use Rattle.word.proofs.Filling.{Fills}
use Rattle.columns.proofs.group_at.Given as goal

abbrev pub invariant-loop-i : goal.invariant-loop-i
invariant-loop-i l = Fills 0 8 (take 8 (drop l.at (filled_up l.words))) l.initial.group l.group l.i
