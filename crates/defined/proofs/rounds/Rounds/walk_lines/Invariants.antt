use Rattle.std.proofs.Common.{◌≡◌, ◌≤◌, ◌-◌}
use Rattle.table.specs.Row.{rows}
use Rattle.defined.specs.Search.{each_line, changed_walked}
use Rattle.defined.proofs.rounds.Rounds.walk_lines.Given as goal

abbrev pub invariant-loop-l : goal.invariant-loop-l
invariant-loop-l l =
    let table = l.table.numbers.now in
    let walk = changed_walked table in
    (1 ≤ l.l) × (each_line walk (rows table - 1) table 1 l.initial.self ≡ each_line walk (rows table - l.l) table l.l l.self)
