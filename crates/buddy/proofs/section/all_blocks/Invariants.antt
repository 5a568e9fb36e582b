use Rattle.std.proofs.Common.{◌-◌, ◌≤◌, length}
use Rattle.buddy.specs.Marks.{Passing}
use Rattle.buddy.proofs.section.all_blocks.Given as goal

abbrev pub invariant-loop-whole : goal.invariant-loop-whole
invariant-loop-whole l =
    (l.all ≤ length l.map) × (l.all ≤ 65536) × Passing l.k l.map l.all 0 1 l.whole.at l.whole.count l.count

abbrev pub decreases-loop-whole : goal.decreases-loop-whole
decreases-loop-whole l = l.all - l.whole.at
