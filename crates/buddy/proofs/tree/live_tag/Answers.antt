-- `live_tag` gives the byte of a live block. Assumes nothing.
use Rattle.std.proofs.Common.{arith}
use Rattle.block.specs.Map.{live_tag_of}
use Rattle.buddy.proofs.tree.live_tag.Goals as goal

pub returns : goal.returns
unfolding live_tag_of
returns c = omega arith
