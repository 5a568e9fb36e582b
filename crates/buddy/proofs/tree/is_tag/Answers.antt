-- `is_tag` tells the two tags of a size. Assumes nothing.
use Rattle.buddy.specs.Marks.{is_tag}
use Rattle.buddy.proofs.tree.is_tag.Goals as goal

pub returns : goal.returns
unfolding is_tag
returns c = rw (c.live_tag.ensures, c.free_tag.ensures)
