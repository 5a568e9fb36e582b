-- `soundness::is_sound` meets its contract: the clauses joined. Assumes nothing.
use Rattle.machine.specs.Sound.{sound}
use Rattle.soundness.proofs.is_sound.Goals as goal

pub returns : goal.returns
unfolding sound
returns c = cc
