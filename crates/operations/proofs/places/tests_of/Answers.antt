-- `operations::places::tests_of` meets its contract: the place built is the definition's own text. Assumes nothing.
use mathlib.Core.Path.{refl}
use Rattle.machine.specs.State.{tests_of}
use Rattle.operations.proofs.places.tests_of.Goals as goal

pub returns : goal.returns
unfolding tests_of
returns c = refl
