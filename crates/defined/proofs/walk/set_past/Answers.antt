-- `defined::walk::set_past` meets its contract. Each branch is one case of the definition: a DO (`past_a_do`) or another operation
-- (`past_another`). Assumes nothing.
use Rattle.defined.proofs.Reading.{past_a_do, past_another}
use native.Mathlib.Omega.{arith}
use Rattle.defined.proofs.walk.set_past.Goals as goal

pub returns-then-row-eq-DO : goal.returns-then-row-eq-DO
returns-then-row-eq-DO c = past_a_do _ _ _ (omega arith)

pub returns : goal.returns
returns c = past_another _ _ _ (omega arith) c.set_after.ensures
