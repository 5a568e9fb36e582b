-- `player::keeping::l6_load` meets its contract: what the crate columns loads, in numbers. Assumes nothing.
use mathlib.Core.Path.{ap}
use Rattle.player.specs.Keeping.{after_load, load_left}
use Rattle.player.proofs.keeping.l6_load.Goals as goal

pub returns : goal.returns
unfolding after_load load_left
returns c = rw c.number_of.ensures (ap after_load c.load.ensures.words_after)
