-- `player::numbers_of` meets its contract. Assumes nothing.
use mathlib.Core.Path.{refl}
use Rattle.player.specs.Calls.{numbers_of_store}
use Rattle.player.proofs.numbers_of.Goals as goal

pub returns : goal.returns
unfolding numbers_of_store
returns c = rw (c.from.ensures, c.from-2.ensures) refl
