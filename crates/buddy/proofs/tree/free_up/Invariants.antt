use Rattle.std.proofs.Common.{◌≡◌, ℕ, ◌-◌, List, length}
use Rattle.block.specs.Blocks.{size}
use Rattle.buddy.specs.Upward.{Rises, Rising}
use Rattle.buddy.proofs.tree.free_up.Given as goal

abbrev pub invariant-loop-n : goal.invariant-loop-n
invariant-loop-n l =
    (length l.tags ≡ size l.k) × Rising l.k l.j l.at l.tags × ((new : List ℕ) → Rises l.k l.level l.offset l.initial.tags new → Rises l.k l.j l.at l.tags new)

abbrev pub decreases-loop-n : goal.decreases-loop-n
decreases-loop-n l = l.k - l.j
