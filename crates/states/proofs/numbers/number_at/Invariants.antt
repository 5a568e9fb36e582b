use Rattle.std.proofs.Common.{◌<◌}
use Rattle.states.proofs.numbers.number_at.Given as goal

abbrev pub invariant-loop-at : goal.invariant-loop-at
invariant-loop-at l = l.shift < 64
