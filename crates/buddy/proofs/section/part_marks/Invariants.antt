use Rattle.std.proofs.Common.{◌≡◌, ◌≤◌, length, take}
use Rattle.buddy.specs.Marks.{marks}
use Rattle.buddy.proofs.section.part_marks.Given as goal

abbrev pub invariant-loop-x : goal.invariant-loop-x
invariant-loop-x l = (l.x-index ≤ length l.part) × (l.count ≡ marks (take l.x-index l.part)) × (l.count ≤ l.x-index)
