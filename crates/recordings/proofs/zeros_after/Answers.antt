-- `recordings::zeros_after` meets its contract, number by number. Assumes nothing.
use mathlib.Core.Path.{refl}
use Rattle.recordings.specs.Recordings.{stop_of, day_of, recording_of}
use Rattle.recordings.proofs.zeros_after.Goals as goal

pub returns : goal.returns
unfolding stop_of day_of recording_of
returns c = refl
