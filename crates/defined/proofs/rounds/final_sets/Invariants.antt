use Rattle.std.proofs.Common.{◌≡◌, ◌-◌}
use Rattle.defined.specs.Search.{rounded, times, final_sets}
use Rattle.defined.proofs.rounds.final_sets.Given as goal

abbrev pub invariant-loop : goal.invariant-loop
invariant-loop l =
    let table = l.table.numbers.now in (times (59200 - l.counter) (rounded table) l.rounds).sets ≡ final_sets table
