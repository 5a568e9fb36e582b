-- `defined::walk::join_to` meets its contract. Each branch is one case of the definition: a row is named (`joins_to`), or none
-- (`joins_none`). Assumes nothing.
use Rattle.defined.proofs.Reading.{joins_to, joins_none}
use native.Mathlib.Omega.{arith}
use Rattle.defined.proofs.walk.join_to.Goals as goal

pub returns-then-r-ne0 : goal.returns-then-r-ne0
returns-then-r-ne0 c = joins_to _ _ _ (omega arith) c.join_at.ensures

pub returns-else-r-ne0 : goal.returns-else-r-ne0
returns-else-r-ne0 c = joins_none _ _ _ (omega arith)
