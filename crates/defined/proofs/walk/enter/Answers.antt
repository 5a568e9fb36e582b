-- `defined::walk::enter` meets its contract. Each branch is one case of the definition: a DO (`enters`) or another operation
-- (`enters_not`). Assumes nothing.
use Rattle.defined.proofs.Reading.{enters, enters_not}
use native.Mathlib.Omega.{arith}
use Rattle.defined.proofs.walk.enter.Goals as goal

pub join_at-requires : goal.join_at-requires
join_at-requires c = c.requires (omega arith)

pub returns-then-row-eq-DO : goal.returns-then-row-eq-DO
returns-then-row-eq-DO c = enters _ _ _ (omega arith) c.join_at.ensures

pub returns-else-row-eq-DO : goal.returns-else-row-eq-DO
returns-else-row-eq-DO c = enters_not _ _ _ (omega arith)
