-- `table::rows::as_row` meets its contract: the row built is the definition's own text. Assumes nothing.
use Rattle.table.specs.Row.{as_row}
use Rattle.table.proofs.rows.as_row.Goals as goal

pub returns : goal.returns
unfolding as_row
returns c = rw (c.pair_at.ensures, c.pair_at-2.ensures, c.pair_at-3.ensures)
