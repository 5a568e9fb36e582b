-- `allocations::maps::setup_of` meets its contract: each set-up fits, by computing. Assumes nothing.
use Rattle.std.proofs.Common.{refl, arith, rules}
use Rattle.block.specs.Blocks.{size, level}
use Rattle.block.specs.SetUp.{top, words}
use Rattle.allocations.proofs.maps.setup_of.Goals as goal

pub returns-in-0 : goal.returns-in-0
unfolding words size top level
returns-in-0 c = rw c.small.ensures (refl, omega arith)

pub returns-in-1 : goal.returns-in-1
unfolding words size top level
returns-in-1 c = search rules

pub returns-in-2 : goal.returns-in-2
unfolding words size top level
returns-in-2 c = search rules

pub returns-in_default : goal.returns-in_default
unfolding words size top level
returns-in_default c = search rules
