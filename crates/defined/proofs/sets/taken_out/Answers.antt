-- `defined::sets::taken_out` meets its contract: with the answers of the three calls put in, it is the definition's own text.
-- Assumes nothing.
use Rattle.defined.specs.Search.{without}
use mathlib.Core.Path.{◌∙◌}
use Rattle.defined.proofs.sets.taken_out.Goals as goal

pub returns : goal.returns
unfolding without
returns c = c.exclusive_or.ensures ∙ rw (c.and.ensures, c.power.ensures)
