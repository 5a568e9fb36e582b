-- `player::l6_version` meets its contract: the number is the definition's own text. Assumes nothing.
use mathlib.Core.Path.{refl}
use Rattle.player.proofs.l6_version.Goals as goal

pub returns : goal.returns
returns c = refl
