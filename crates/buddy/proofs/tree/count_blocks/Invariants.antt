use Rattle.std.proofs.Common.{◌-◌, ◌≤◌, length}
use Rattle.buddy.specs.Marks.{counted}
use Rattle.buddy.proofs.Adding.{Adds}
use Rattle.buddy.proofs.tree.count_blocks.Given as goal

abbrev pub invariant-loop-i : goal.invariant-loop-i
invariant-loop-i l = (l.i ≤ 256) × (l.count ≤ l.i) × Adds l.k l.bytes l.i l.count (counted l.k l.bytes)

abbrev pub decreases-loop-i : goal.decreases-loop-i
decreases-loop-i l = length l.bytes - l.i
