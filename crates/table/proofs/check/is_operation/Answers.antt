-- `table::check::is_operation` meets its contract: each return by the tests that led there. Assumes nothing.
use native.Mathlib.Omega.{arith}
use Rattle.table.proofs.Formed.{operation_small, operation_large, operation_from}
use Rattle.table.proofs.check.is_operation.Goals as goal

pub returns-then-row-lt-SET_UP : goal.returns-then-row-lt-SET_UP
returns-then-row-lt-SET_UP c = operation_small _ _ _ (omega arith)

pub returns-then-row-gt-DO : goal.returns-then-row-gt-DO
returns-then-row-gt-DO c = operation_large _ _ _ (omega arith) (omega arith)

pub returns : goal.returns
returns c = operation_from _ _ _ (omega arith) (omega arith) c.shape_of.ensures c.has_shape.ensures
