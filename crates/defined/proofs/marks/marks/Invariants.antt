use Rattle.std.proofs.Common.{◌≡◌, ◌≤◌, ◌-◌}
use Rattle.table.specs.Row.{rows}
use Rattle.defined.specs.Search.{each_line, line_marked_of}
use Rattle.defined.proofs.marks.marks.Given as goal

abbrev pub invariant-loop-l : goal.invariant-loop-l
invariant-loop-l l =
    let table = l.table.numbers.now in
    let walk = line_marked_of table l.sets in
    (1 ≤ l.l) × (each_line walk (rows table - 1) table 1 l.initial.marks ≡ each_line walk (rows table - l.l) table l.l l.marks)
