-- `plans::steps::plan_tests` meets its contract: 2, the tests, and then the first operation or the next line. Assumes nothing.
use Rattle.word.proofs.Tests.{known_false, known_true}
use Rattle.table.specs.Row.{as_row, pair_at}
use Rattle.machine.proofs.Checks.{need_no}
use Rattle.plans.specs.Steps.{tests_plan}
use Rattle.plans.proofs.Answers.{goes_there, halts, holds_is, not_settled_is}
use Rattle.plans.proofs.Going.{some_rows, next_few, operation_few}
use Rattle.plans.proofs.Rows.{used}
use Rattle.plans.proofs.Stepping.{tests_stopped, tests_hold, tests_fail}
use Rattle.plans.proofs.steps.plan_tests.Goals as goal

pub can_use-requires : goal.can_use-requires
can_use-requires c = c.requires.2

pub returns-then-not-can_use : goal.returns-then-not-can_use
unfolding tests_plan
returns-then-not-can_use c = halts (need_no _ _ _ (known_false c.can_use.ensures c.if-not-can_use.true-raw))

pub from_row-row-requires : goal.from_row-row-requires
from_row-row-requires c = (used 1 _ _ _ (known_true c.can_use.ensures c.if-not-can_use.false-raw)).room

pub satisfied-requires : goal.satisfied-requires
satisfied-requires c =
    (c.requires.0, c.requires.2, some_rows _ c.requires.1)

pub operation_or_exit-requires : goal.operation_or_exit-requires
unfolding as_row pair_at
operation_or_exit-requires c =
    operation_few _ _ _ c.requires.1 c.from_row-row.ensures.0
    (known_true c.can_use.ensures c.if-not-can_use.false-raw)

pub returns-then-holds : goal.returns-then-holds
unfolding as_row pair_at
returns-then-holds c =
    goes_there c.going_to.ensures (tests_hold _ _ _ _ (known_true c.can_use.ensures c.if-not-can_use.false-raw)
    c.from_row-row.ensures.0 (holds_is _ c.satisfied.ensures c.in-Ok.is)
    c.if-holds.true c.operation_or_exit.ensures)

pub next_line-requires : goal.next_line-requires
unfolding as_row
next_line-requires c =
    next_few _ _ _ c.requires.1 c.from_row-row.ensures.0 1
    (known_true c.can_use.ensures c.if-not-can_use.false-raw)

pub returns-else-holds : goal.returns-else-holds
unfolding as_row pair_at
returns-else-holds c =
    goes_there c.going_to-in-Ok.ensures (tests_fail _ _ _ _ (known_true c.can_use.ensures c.if-not-can_use.false-raw)
    c.from_row-row.ensures.0 (holds_is _ c.satisfied.ensures c.in-Ok.is)
    c.if-holds.false c.next_line.ensures)

pub returns-in-Err : goal.returns-in-Err
unfolding as_row pair_at
returns-in-Err c =
    halts (tests_stopped _ _ _ _ (known_true c.can_use.ensures c.if-not-can_use.false-raw)
    c.from_row-row.ensures.0 (not_settled_is _ c.satisfied.ensures c.in-Err.is))
