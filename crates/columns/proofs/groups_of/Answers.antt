-- `columns::groups_of` meets its contract: the quotient rounded up is the definition's, by arithmetic. Assumes nothing.
use Rattle.std.proofs.Common.{arith}
use Rattle.columns.specs.Columns.{groups_of}
use Rattle.columns.proofs.groups_of.Goals as goal

pub returns : goal.returns
unfolding groups_of
returns c = omega (arith, c.div_ceil.ensures)
