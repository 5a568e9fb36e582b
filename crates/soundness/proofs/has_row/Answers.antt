-- `soundness::has_row` meets its contract: each return by the kind that led there. Assumes nothing.
use borrow.Author.Tests.{eq-eqb, ne_eqb}
use Rattle.soundness.proofs.has_row.Goals as goal

pub returns-then-p-eq-AT_OPERATION : goal.returns-then-p-eq-AT_OPERATION
returns-then-p-eq-AT_OPERATION c = rw (eq-eqb _ _ c.if-p-eq-AT_OPERATION.true) c.is_row.ensures

pub returns-else-p-eq-AT_OPERATION : goal.returns-else-p-eq-AT_OPERATION
returns-else-p-eq-AT_OPERATION c = rw (ne_eqb _ _ c.if-p-eq-AT_OPERATION.false)
