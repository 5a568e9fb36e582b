use Rattle.std.proofs.Common.{◌+◌, ◌-◌, ◌≤◌}
use Rattle.buddy.specs.Marks.{PassedOver}
use Rattle.buddy.proofs.section.whole_trees.Given as goal

abbrev pub invariant-loop-i : goal.invariant-loop-i
invariant-loop-i l =
    PassedOver l.k l.map l.end l.from l.before l.i l.count × (l.count + l.from ≤ l.before + l.i)

abbrev pub decreases-loop-i : goal.decreases-loop-i
decreases-loop-i l = l.end - l.i
