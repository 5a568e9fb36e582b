-- `defined::walk::join_at` meets its contract: the "or" stored is the definition's own text. Assumes nothing.
use Rattle.defined.specs.Search.{joined_at}
use Rattle.defined.proofs.walk.join_at.Goals as goal

pub returns : goal.returns
unfolding joined_at
returns c = rw c.or.ensures
