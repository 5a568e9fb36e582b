-- `table::rows::row_at` meets its contract: the row of the part that `from_row` gives is row r. Assumes nothing.
use mathlib.Core.Path.{◌∙◌}
use Rattle.table.proofs.rows.row_at.Goals as goal

pub as_row-requires : goal.as_row-requires
as_row-requires c = c.from_row.ensures.1

pub returns : goal.returns
returns c = c.as_row.ensures ∙ c.from_row.ensures.0
