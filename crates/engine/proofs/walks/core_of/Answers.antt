-- `engine::walks::core_of` meets its contract: the core built is the definition's own text. Assumes nothing.
use mathlib.Core.Path.{refl}
use Rattle.engine.proofs.walks.core_of.Goals as goal

pub returns : goal.returns
returns c = refl
