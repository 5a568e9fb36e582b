-- `soundness::is_sound_core` meets its contract: the four clauses joined. Assumes nothing.
use Rattle.machine.specs.Sound.{sound_core}
use Rattle.soundness.proofs.is_sound_core.Goals as goal

pub returns : goal.returns
unfolding sound_core
returns c = cc
