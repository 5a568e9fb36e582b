use lib.ListN.{length, drop}
use Rattle.lines.specs.Program.{chained_rows}
use Rattle.faults.specs.Checking.{parens_in}
use Rattle.typed.specs.Looking.{row_at}
use Rattle.typed.specs.Putting.{put_rows, group_row}
use Rattle.typed.proofs.Grouping.{Grouping}
use Rattle.typed.proofs.values.Ready.put_group.Given as goal

abbrev pub invariant-loop-left : goal.invariant-loop-left
invariant-loop-left l =
    let at = row_at l.self in
    let parens = parens_in l.initial.left (drop l.initial.place l.s) in
    let rows = chained_rows (group_row l.self.labels.b at l.tests) l.initial.row parens in
    Grouping l.self.labels.b at l.s l.tests (length l.initial.table) (put_rows l.initial.row rows l.initial.table) l.left l.place l.row l.table
