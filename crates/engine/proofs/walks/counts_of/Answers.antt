-- `engine::walks::counts_of` meets its contract: the counts are the definition's own text, and `known_entries` gives how many entries the
-- calls have. Assumes nothing.
use mathlib.Core.Path.{refl}
use Rattle.engine.proofs.walks.counts_of.Goals as goal

pub returns : goal.returns
returns c = (refl, c.known_entries.ensures)
