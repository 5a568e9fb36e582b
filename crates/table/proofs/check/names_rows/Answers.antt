-- `table::check::names_rows` meets its contract: its tests joined are the definition. Assumes nothing.
use Rattle.table.specs.Table.{names_rows}
use Rattle.table.proofs.check.names_rows.Goals as goal

pub returns : goal.returns
unfolding names_rows
returns c = cc
