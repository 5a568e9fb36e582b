-- `word::fields::places_right` meets its contract: the difference is the definition's, by arithmetic. Assumes nothing.
use Rattle.std.proofs.Common.{arith}
use Rattle.word.specs.Field.{shift}
use Rattle.word.proofs.fields.places_right.Goals as goal

pub returns : goal.returns
unfolding shift
returns c = omega arith
