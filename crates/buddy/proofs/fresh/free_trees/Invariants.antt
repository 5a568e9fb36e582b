use Rattle.std.proofs.Common.{◌≡◌, ◌*◌, ◌≤◌, length}
use Rattle.block.specs.Blocks.{size}
use Rattle.buddy.proofs.FreeTrees.{free_trees}
use Rattle.buddy.proofs.fresh.free_trees.Given as goal

abbrev pub invariant-loop-done : goal.invariant-loop-done
invariant-loop-done l =
    (l.done ≤ l.count) × (length l.map ≡ length l.initial.map) × (l.i ≡ l.done * size l.k) × (l.map ≡ free_trees l.k l.done (length l.initial.map))
