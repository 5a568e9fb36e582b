use Rattle.std.proofs.Common.{◌≡◌, ◌≤◌, ◌-◌}
use Rattle.table.specs.Row.{rows}
use Rattle.defined.specs.Search.{lowest_using}
use Rattle.defined.proofs.uses.lowest_use.Given as goal

abbrev pub invariant-loop-row : goal.invariant-loop-row
invariant-loop-row l =
    let table = l.table.numbers.now in
    (1 ≤ l.row) × (lowest_using (rows table - 1) table 1 l.marks ≡ lowest_using (rows table - l.row) table l.row l.marks)
