use Rattle.std.proofs.Common.{◌≡◌, ◌+◌, ◌≤◌, ◌&&◌, eqb, length}
use Rattle.buddy.proofs.Zeros.{zero_from}
use Rattle.buddy.proofs.tree.zero_from.Given as goal

abbrev pub invariant-loop-x : goal.invariant-loop-x
invariant-loop-x l =
    (l.from + l.x-index ≤ length l.tags)
    × (zero_from l.from l.tags ≡ (eqb l.all 0 && zero_from (l.from + l.x-index) l.tags))
