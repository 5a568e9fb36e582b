-- `faults::names::Labels::is_again` meets its contract: with the row that `known_row` answers, the two tests are the definition's own text.
-- Assumes nothing.
use Rattle.faults.specs.Names.{known_before}
use Rattle.faults.proofs.names.Labels.is_again.Goals as goal

pub returns : goal.returns
unfolding known_before
returns c = rw c.row_of-row.ensures
