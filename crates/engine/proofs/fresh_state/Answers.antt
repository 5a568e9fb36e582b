-- `engine::fresh_state` meets its contract: the state built is the definition's own text. Assumes nothing.
use mathlib.Core.Path.{refl}
use Rattle.machine.specs.State.{tests_of, undefined, no_set_up, fresh}
use Rattle.engine.proofs.fresh_state.Goals as goal

pub returns : goal.returns
unfolding fresh tests_of undefined no_set_up
returns c = refl
