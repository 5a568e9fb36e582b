-- `soundness::is_sound_engine` meets its contract: core and storage. Assumes nothing.
use Rattle.machine.specs.Sound.{sound_engine}
use Rattle.soundness.proofs.is_sound_engine.Goals as goal

pub returns : goal.returns
unfolding sound_engine
returns c = cc
