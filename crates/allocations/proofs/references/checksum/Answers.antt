-- `allocations::references::checksum` meets its contract. The bench cases' set-up is small. Assumes nothing.
use Rattle.std.proofs.Common.{arith}
use Rattle.block.specs.SetUp.{words}
use Rattle.allocations.proofs.references.checksum.Goals as goal

pub fresh-map-requires : goal.fresh-map-requires
unfolding words
fresh-map-requires c = rw c.small.ensures (omega arith)
