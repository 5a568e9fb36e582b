-- `defined::accepted::Table::rows` meets its contract: the definition's own text. Assumes nothing.
use mathlib.Core.Path.{refl}
use Rattle.table.specs.Row.{rows}
use Rattle.defined.proofs.accepted.Table.rows.Goals as goal

pub returns : goal.returns
unfolding rows
returns c = refl
