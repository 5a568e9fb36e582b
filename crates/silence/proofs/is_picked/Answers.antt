-- `silence::is_picked` meets its contract: by what is asked. Assumes nothing.
use mathlib.Core.Bool.{not}
use mathlib.Core.Path.{ap}
use Rattle.silence.specs.Silence.{test_of}
use Rattle.silence.proofs.is_picked.Goals as goal

pub returns-in-Silent : goal.returns-in-Silent
unfolding test_of
returns-in-Silent c = rw c.in-Silent.is (ap not c.has_recording.ensures)

pub returns-in-Repeated : goal.returns-in-Repeated
unfolding test_of
returns-in-Repeated c = rw c.in-Repeated.is c.is_repeated.ensures
