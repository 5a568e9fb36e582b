-- `listing::are_blocks` meets its contract: the three calls' answers joined are the definition. Assumes nothing.
use Rattle.listing.specs.Listing.{are_blocks}
use Rattle.listing.proofs.are_blocks.Goals as goal

pub returns : goal.returns
unfolding are_blocks
returns c = cc
