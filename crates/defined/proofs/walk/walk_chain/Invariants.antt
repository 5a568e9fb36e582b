use Rattle.defined.proofs.Loops.{Walks, rows_left}
use Rattle.table.specs.Row.{row_at, first_operation}
use Rattle.defined.specs.Search.{walking}
use Rattle.defined.proofs.walk.walk_chain.Given as goal

abbrev pub invariant-loop-r : goal.invariant-loop-r
invariant-loop-r l =
    let table = l.table.numbers.now in
    let line = row_at table l.l in
    Walks (walking table line l.done) table 3 (first_operation line) l.start l.initial.sets l.sets l.r l.x

abbrev pub decreases-loop-r : goal.decreases-loop-r
decreases-loop-r l = rows_left l.table.numbers.now l.r
