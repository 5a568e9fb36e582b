-- `defined::rounds::Rounds::first` meets its contract: the definition's own text. Assumes nothing.
use mathlib.Core.Path.{refl}
use Rattle.defined.specs.Search.{first_sets, first_rounds}
use Rattle.defined.proofs.rounds.Rounds.first.Goals as goal

pub returns : goal.returns
unfolding first_rounds first_sets
returns c = refl
