use Rattle.std.proofs.Common.{◌≡◌, ◌≤◌, ◌-◌, ℕ}
use Rattle.table.specs.Row.{rows}
use Rattle.defined.specs.Search.{Sets, each_line, chain_walked}
use Rattle.defined.proofs.rounds.walk_rests.Given as goal

abbrev pub invariant-loop-l : goal.invariant-loop-l
invariant-loop-l l =
    let table = l.table.numbers.now in
    let walk : ℕ → Sets → Sets = λ i. chain_walked table i 0 l.done in
    (1 ≤ l.l) × (each_line walk (rows table - 1) table 1 l.initial.sets ≡ each_line walk (rows table - l.l) table l.l l.sets)
