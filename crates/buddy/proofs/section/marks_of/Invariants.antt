use Rattle.std.proofs.Common.{◌≡◌, ◌+◌, ◌*◌, ◌/◌, length, take, drop}
use Rattle.buddy.specs.Marks.{marks}
use Rattle.buddy.proofs.section.marks_of.Given as goal

abbrev pub invariant-loop-part : goal.invariant-loop-part
invariant-loop-part l = l.count ≡ marks (drop (length l.bytes / 128 * 128) l.bytes) + marks (take (l.part-index * 128) l.bytes)
