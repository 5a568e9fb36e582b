-- `table::forms::has_pairs` meets its contract: the three calls' answers joined are the definition. Assumes nothing.
use mathlib.Core.Bool.{◌&&◌}
use mathlib.Core.Path.{ap₂}
use Rattle.table.specs.Table.{fit_pairs}
use Rattle.table.proofs.forms.has_pairs.Goals as goal

pub returns : goal.returns
unfolding fit_pairs
returns c = ap₂ ◌&&◌ c.is_operand-first.ensures (ap₂ ◌&&◌ c.is_operand-second.ensures c.is_operand-third.ensures)
