-- `table::check::has_kind` meets its contract: each return by the kind that led there. Assumes nothing.
use native.Mathlib.Omega.{arith}
use Rattle.table.proofs.Formed.{shaped_line, shaped_test, shaped_operation}
use Rattle.table.proofs.check.has_kind.Goals as goal

pub returns-then-kind-eq-LINE : goal.returns-then-kind-eq-LINE
returns-then-kind-eq-LINE c = shaped_line _ _ _ _ (omega arith) c.is_line.ensures

pub returns-then-kind-eq-TEST : goal.returns-then-kind-eq-TEST
returns-then-kind-eq-TEST c = shaped_test _ _ _ _ (omega arith) (omega arith) c.is_test.ensures

pub returns : goal.returns
returns c = shaped_operation _ _ _ _ (omega arith) (omega arith) c.is_operation.ensures
