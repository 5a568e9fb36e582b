-- `defined::sets::set_after` meets its contract. Each return is one case of the definition: a definition, a restore, another operation.
-- Assumes nothing.
use Rattle.defined.proofs.Reading.{after_definition, after_restore, after_plain}
use native.Mathlib.Omega.{arith}
use Rattle.defined.proofs.sets.set_after.Goals as goal

pub returns-then-row-eq-DEFINE : goal.returns-then-row-eq-DEFINE
returns-then-row-eq-DEFINE c = after_definition _ _ (omega arith) c.taken_out.ensures

pub returns-then-row-eq-RESTORE_DEFINITION : goal.returns-then-row-eq-RESTORE_DEFINITION
returns-then-row-eq-RESTORE_DEFINITION c = after_restore _ _ (omega arith) c.put_in.ensures

pub returns : goal.returns
returns c = after_plain _ _ (omega arith) (omega arith)
