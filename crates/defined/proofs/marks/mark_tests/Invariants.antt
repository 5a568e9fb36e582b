use Rattle.defined.proofs.Loops.{Walks, rows_left}
use Rattle.defined.specs.Search.{marking}
use Rattle.defined.proofs.marks.mark_tests.Given as goal

abbrev pub invariant-loop-t : goal.invariant-loop-t
invariant-loop-t l = Walks (marking (λ row y. y)) l.table.numbers.now 2 l.first l.x l.initial.marks l.marks l.t l.x

abbrev pub decreases-loop-t : goal.decreases-loop-t
decreases-loop-t l = rows_left l.table.numbers.now l.t
