-- `free_tag` gives the byte of a free block. Assumes nothing.
use Rattle.std.proofs.Common.{arith}
use Rattle.block.specs.Map.{free_tag}
use Rattle.buddy.proofs.tree.free_tag.Goals as goal

pub returns : goal.returns
unfolding free_tag
returns c = omega arith
