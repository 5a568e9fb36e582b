-- `defined::accepted::Table::row` meets its contract: a table has whole rows. Assumes nothing.
use native.Mathlib.Omega.{arith}
use Rattle.defined.proofs.Reading.{whole_rows}
use Rattle.defined.proofs.accepted.Table.row.Goals as goal

pub row_at-requires : goal.row_at-requires
row_at-requires c = let whole = whole_rows c.args.self.now.numbers.now c.args.self.now.long in omega (arith, c.requires)
