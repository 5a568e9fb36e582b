-- `table::forms::is_operand` meets its contract: each arm's tests joined are the definition at its operand. Assumes nothing.
use mathlib.Core.Bool.{◌||◌}
use mathlib.Core.Path.{ap₂}
use Rattle.table.proofs.Formed.{takes_at}
use Rattle.table.proofs.forms.is_operand.Goals as goal

pub returns-in-Absent : goal.returns-in-Absent
returns-in-Absent c = takes_at _ _ _ c.in-Absent.is c.is_absent.ensures

pub returns-in-Literal : goal.returns-in-Literal
returns-in-Literal c = takes_at _ _ _ c.in-Literal.is c.is_literal.ensures

pub returns-in-Reference : goal.returns-in-Reference
returns-in-Reference c = takes_at _ _ _ c.in-Reference.is c.is_ref.ensures

pub returns-in-Either : goal.returns-in-Either
returns-in-Either c = takes_at _ _ _ c.in-Either.is (ap₂ ◌||◌ c.is_literal-in-Either.ensures c.is_ref-in-Either.ensures)

pub returns-in-ReferenceOrAbsent : goal.returns-in-ReferenceOrAbsent
returns-in-ReferenceOrAbsent c = takes_at _ _ _ c.in-ReferenceOrAbsent.is (ap₂ ◌||◌ c.is_ref-in-ReferenceOrAbsent.ensures c.is_absent-in-ReferenceOrAbsent.ensures)

pub returns-in-ReferenceOrZero : goal.returns-in-ReferenceOrZero
returns-in-ReferenceOrZero c = takes_at _ _ _ c.in-ReferenceOrZero.is (ap₂ ◌||◌ c.is_ref-in-ReferenceOrZero.ensures c.is_zero.ensures)

pub returns-in-Line : goal.returns-in-Line
returns-in-Line c = takes_at _ _ _ c.in-Line.is (cc)
