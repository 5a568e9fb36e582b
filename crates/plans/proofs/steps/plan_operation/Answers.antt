-- `plans::steps::plan_operation` meets its contract: 2, and then the action and the place after it. Assumes nothing.
use Rattle.word.proofs.Tests.{known_false, known_true}
use Rattle.table.specs.Row.{as_row}
use Rattle.machine.proofs.Checks.{need_no}
use Rattle.operations.proofs.Answers.{plan_is, no_plan_is}
use Rattle.plans.specs.Steps.{operation_plan}
use Rattle.plans.proofs.Answers.{goes, halts}
use Rattle.plans.proofs.Going.{next_few}
use Rattle.plans.proofs.Rows.{used}
use Rattle.plans.proofs.Shapes.{operates}
use Rattle.plans.proofs.Stepping.{operation_goes, operation_stops}
use Rattle.plans.proofs.steps.plan_operation.Goals as goal

pub can_use-requires : goal.can_use-requires
can_use-requires c = c.requires.2

pub returns-then-not-can_use : goal.returns-then-not-can_use
unfolding operation_plan
returns-then-not-can_use c = halts (need_no _ _ _ (known_false c.can_use.ensures c.if-not-can_use.true-raw))

pub from_row-row-requires : goal.from_row-row-requires
from_row-row-requires c = (used 3 _ _ _ (known_true c.can_use.ensures c.if-not-can_use.false-raw)).room

pub operation_or_exit-to-requires : goal.operation_or_exit-to-requires
unfolding as_row
operation_or_exit-to-requires c =
    next_few _ _ _ c.requires.1 c.from_row-row.ensures.0 3
    (known_true c.can_use.ensures c.if-not-can_use.false-raw)

pub plan_ordered-requires : goal.plan_ordered-requires
plan_ordered-requires c = (
  c.requires.0,
  operates _ _ _ (known_true c.can_use.ensures c.if-not-can_use.false-raw) c.from_row-row.ensures.0,
  c.from_row-row.ensures.1,
)

pub returns-in-Ok : goal.returns-in-Ok
unfolding as_row
returns-in-Ok c =
    goes _ (operation_goes _ _ _ _ (known_true c.can_use.ensures c.if-not-can_use.false-raw)
    c.from_row-row.ensures.0
    (plan_is _ c.plan_ordered.ensures c.in-Ok.is)
    c.operation_or_exit-to.ensures)

pub returns-in-Err : goal.returns-in-Err
returns-in-Err c =
    halts (operation_stops _ _ _ _ (known_true c.can_use.ensures c.if-not-can_use.false-raw)
    c.from_row-row.ensures.0
    (no_plan_is _ c.plan_ordered.ensures c.in-Err.is))
