-- `allocations::maps::fresh` meets its contract. A size is above 0, and a level 7 at most. Assumes nothing.
use Rattle.std.proofs.Common.{◌≤◌, arith}
use Rattle.block.proofs.Size.{size_pos, top_le}
use Rattle.allocations.proofs.maps.fresh.Goals as goal

pub size_of-n-requires : goal.size_of-n-requires
size_of-n-requires c = rw c.top_of-k.ensures (top_le _)

pub step_by-first-items-requires : goal.step_by-first-items-requires
step_by-first-items-requires c = rw c.size_of-n.ensures (size_pos _)

pub overflow_add-first : goal.overflow_add-first
overflow_add-first c = let low : c.top_of-k.result ≤ 7 = rw c.top_of-k.ensures (top_le _) in omega arith

pub overflow_add-first-in-loop-first : goal.overflow_add-first-in-loop-first
overflow_add-first-in-loop-first c = let low : c.top_of-k.result ≤ 7 = rw c.top_of-k.ensures (top_le _) in omega arith
