-- `table::check::well_formed` meets its contract: its three tests joined are the definition. Assumes nothing.
use mathlib.Core.Bool.{◌||◌}
use mathlib.Core.Path.{ap₂}
use Rattle.table.specs.Table.{well_formed}
use Rattle.table.proofs.check.well_formed.Goals as goal

pub returns : goal.returns
unfolding well_formed
returns c = ap₂ ◌||◌ (ap₂ ◌||◌ c.well_formed_as-line.ensures c.well_formed_as-test.ensures) c.well_formed_as-operation.ensures
