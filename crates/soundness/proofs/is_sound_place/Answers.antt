-- `soundness::is_sound_place` meets its contract: the call's answer and its own tests joined are the definition. Assumes nothing.
use Rattle.machine.specs.State.{is_finished}
use Rattle.machine.specs.Sound.{sound_place}
use Rattle.soundness.proofs.is_sound_place.Goals as goal

pub returns : goal.returns
unfolding sound_place is_finished
returns c = cc
