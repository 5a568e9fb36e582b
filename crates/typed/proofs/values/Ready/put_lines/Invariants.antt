use mathlib.Core.Path.{◌≡◌}
use lib.ListN.{length}
use Rattle.std.specs.Slice.Iter.{split_inclusive_rest}
use Rattle.lines.specs.Program.{rows_from}
use Rattle.faults.specs.Places.{lines_in}
use Rattle.typed.specs.Putting.{put_rows}
use Rattle.typed.specs.Looking.{row_at}
use Rattle.typed.proofs.Written.{Writing}
use Rattle.typed.proofs.values.Ready.put_lines.Given as goal

abbrev pub invariant-loop-s : goal.invariant-loop-s
invariant-loop-s l =
    (l.left ≡ length (split_inclusive_rest l.s-iterator))
    × Writing l.self.labels.b (row_at l.self) (length l.initial.table)
    (put_rows 1 (rows_from l.self.labels.b (row_at l.self) 1 (lines_in l.self.labels.b l.self.labels.text.now)) l.initial.table)
    (split_inclusive_rest l.s-iterator) l.row l.table
