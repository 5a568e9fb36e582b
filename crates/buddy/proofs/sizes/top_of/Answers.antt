-- `top_of` gives the place of the largest size. Assumes nothing.
use Rattle.block.specs.SetUp.{top}
use Rattle.buddy.proofs.sizes.top_of.Goals as goal

pub returns : goal.returns
unfolding top
returns c = c.level_of.ensures
