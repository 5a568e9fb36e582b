use Rattle.std.proofs.Common.{◌≤◌}
use Rattle.allocations.proofs.maps.sequence.Given as goal

abbrev pub invariant-loop-left : goal.invariant-loop-left
invariant-loop-left l = l.left ≤ 4000
