use Rattle.std.proofs.Common.{◌≡◌, ◌<◌, ◌≤◌}
use Rattle.block.specs.Blocks.{size}
use Rattle.buddy.specs.Marks.{TagsAt}
use Rattle.buddy.proofs.section.whole_part.Given as goal

abbrev pub invariant-loop-i : goal.invariant-loop-i
invariant-loop-i l = (l.n ≡ size l.k) × (l.i ≤ 128) × (l.all < 2 → TagsAt l.k l.part l.i)
