use Rattle.std.proofs.Common.{◌-◌}
use Rattle.buddy.specs.Lowest.{Passed}
use Rattle.buddy.proofs.section.skip.Given as goal

abbrev pub invariant-loop-i : goal.invariant-loop-i
invariant-loop-i l = Passed l.map l.end l.least l.n l.from l.i

abbrev pub decreases-loop-i : goal.decreases-loop-i
decreases-loop-i l = l.end - l.i
