-- `table::rows::pair_at` meets its contract: the pair built is the definition's own text. Assumes nothing.
use mathlib.Core.Path.{refl}
use Rattle.table.specs.Row.{pair_at}
use Rattle.table.proofs.rows.pair_at.Goals as goal

pub returns : goal.returns
unfolding pair_at
returns c = refl
