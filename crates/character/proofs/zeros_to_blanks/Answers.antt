-- `character::zeros_to_blanks` meets its contract. The definition is the call.
-- Assumes nothing.
use Rattle.character.specs.Character.{blank, zeros_to_blanks}
use Rattle.character.proofs.zeros_to_blanks.Goals as goal

pub returns : goal.returns
unfolding blank zeros_to_blanks
returns c = c.changed.ensures
