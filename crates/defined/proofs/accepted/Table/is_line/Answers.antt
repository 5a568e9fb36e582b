-- `defined::accepted::Table::is_line` meets its contract: with the kind that `kind_at` finds, the test is the definition's own text.
-- Assumes nothing.
use Rattle.defined.specs.Kinds.{is_kind}
use Rattle.defined.proofs.accepted.Table.is_line.Goals as goal

pub returns : goal.returns
unfolding is_kind
returns c = rw c.kind_at.ensures
