-- `table::check::is_line` meets its contract: its two tests joined are the definition. Assumes nothing.
use mathlib.Core.Bool.{◌&&◌}
use mathlib.Core.Path.{ap₂}
use Rattle.table.specs.Table.{is_line}
use Rattle.table.proofs.check.is_line.Goals as goal

pub returns : goal.returns
unfolding is_line
returns c = ap₂ ◌&&◌ c.names_rows.ensures c.is_complete.ensures
