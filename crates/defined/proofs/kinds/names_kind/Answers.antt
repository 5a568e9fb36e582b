-- `defined::kinds::names_kind` meets its contract: with the kind that `kind_at` finds, the two tests are the definition's own text.
-- Assumes nothing.
use Rattle.defined.specs.Kinds.{is_kind, names_kind}
use Rattle.defined.proofs.kinds.names_kind.Goals as goal

pub returns : goal.returns
unfolding names_kind is_kind
returns c = rw c.kind_at-found.ensures
