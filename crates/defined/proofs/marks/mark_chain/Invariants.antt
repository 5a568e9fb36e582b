use Rattle.defined.proofs.Loops.{Walks, rows_left}
use Rattle.defined.specs.Search.{set_past, marking}
use Rattle.defined.proofs.marks.mark_chain.Given as goal

abbrev pub invariant-loop-r : goal.invariant-loop-r
invariant-loop-r l =
    Walks (marking (set_past l.done)) l.table.numbers.now 3 l.first l.start l.initial.marks l.marks l.r l.x

abbrev pub decreases-loop-r : goal.decreases-loop-r
decreases-loop-r l = rows_left l.table.numbers.now l.r
