-- `soundness::is_place` meets its contract: the two calls' answers joined are the definition. Assumes nothing.
use Rattle.machine.specs.Sound.{is_place}
use Rattle.soundness.proofs.is_place.Goals as goal

pub returns : goal.returns
unfolding is_place
returns c = cc
