-- `table::check::is_usable` meets its contract: each return by the tests that led there. Assumes nothing.
use native.Mathlib.Omega.{arith}
use Rattle.table.proofs.Formed.{missing_low, missing_high, used_row}
use Rattle.table.proofs.check.is_usable.Goals as goal

pub returns-then-r-lt1 : goal.returns-then-r-lt1
returns-then-r-lt1 c = missing_low _ _ _ _ (omega arith)

pub returns-then-rows-r : goal.returns-then-rows-r
returns-then-rows-r c = missing_high _ _ _ _ (omega arith) (omega arith)

pub returns : goal.returns
returns c = used_row _ _ _ _ (omega arith) (omega arith) c.row_at.ensures c.well_formed_as.ensures
