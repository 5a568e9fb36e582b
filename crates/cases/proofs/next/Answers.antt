-- `cases::next` meets its contract: the state built is the definition's own text. Assumes nothing.
use mathlib.Core.Path.{refl}
use Rattle.cases.specs.Folding.{on_left, on_right, next}
use Rattle.cases.proofs.next.Goals as goal

pub returns : goal.returns
unfolding next on_left on_right
returns c = refl
