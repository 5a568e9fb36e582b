-- `typed::values::Ready::group_row` meets its contract. Each branch is one case of the definition: a test (`group_test`) or an operation
-- (`group_operation`). Assumes nothing.
use mathlib.Core.Path.{◌∙◌}
use Rattle.typed.proofs.Grouping.{group_test, group_operation, is_test_lem, is_operation_lem}
use Rattle.typed.proofs.values.Ready.group_row.Goals as goal

pub test_row-requires : goal.test_row-requires
test_row-requires c =
    is_test_lem _ _ _ c.if-tests.true c.requires

pub operation_row-requires : goal.operation_row-requires
operation_row-requires c =
    is_operation_lem _ _ _ c.if-tests.false c.requires

pub returns-then-tests : goal.returns-then-tests
returns-then-tests c = c.test_row.ensures ∙ group_test _ _ _ _ _ c.if-tests.true

pub returns-else-tests : goal.returns-else-tests
returns-else-tests c = c.operation_row.ensures ∙ group_operation _ _ _ _ _ c.if-tests.false
