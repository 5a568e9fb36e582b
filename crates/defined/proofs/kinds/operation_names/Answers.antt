-- `defined::kinds::operation_names` meets its contract: with the kind that `kind_at` finds, the two tests are the definition's own text.
-- Assumes nothing.
use Rattle.defined.specs.Kinds.{is_kind, operation_names}
use Rattle.defined.proofs.kinds.operation_names.Goals as goal

pub returns : goal.returns
unfolding operation_names is_kind
returns c = rw c.kind_at-kind.ensures
