-- `plans::steps::plan_exit` meets its contract: 2, then DONE, the go-to, or the next line. Assumes nothing.
use Rattle.word.proofs.Tests.{known_false, known_true}
use Rattle.table.specs.Row.{as_row, pair_at}
use Rattle.machine.proofs.Checks.{need_no}
use Rattle.operations.specs.Deeds.{meant}
use Rattle.plans.specs.Steps.{exit_plan}
use Rattle.plans.proofs.Answers.{goes, goes_there, halts}
use Rattle.plans.proofs.Going.{next_few, goes_few}
use Rattle.plans.proofs.Rows.{used}
use Rattle.plans.proofs.Stepping.{exit_empty, exit_returns, exit_next, exit_goes}
use Rattle.plans.proofs.steps.plan_exit.Goals as goal

pub can_use-requires : goal.can_use-requires
can_use-requires c = c.requires.1

pub returns-then-not-can_use : goal.returns-then-not-can_use
unfolding exit_plan
returns-then-not-can_use c = halts (need_no _ _ _ (known_false c.can_use.ensures c.if-not-can_use.true-raw))

pub from_row-row-requires : goal.from_row-row-requires
from_row-row-requires c = (used 1 _ _ _ (known_true c.can_use.ensures c.if-not-can_use.false-raw)).room

pub returns-then-counts-eq0 : goal.returns-then-counts-eq0
unfolding as_row pair_at
returns-then-counts-eq0 c =
    halts (exit_empty _ _ _ _ (known_true c.can_use.ensures c.if-not-can_use.false-raw) c.from_row-row.ensures.0
    c.if-goes-eq-DONE.true c.if-counts-eq0.true)

pub returns-then-goes-eq-DONE : goal.returns-then-goes-eq-DONE
unfolding as_row pair_at meant
returns-then-goes-eq-DONE c =
    goes _ (exit_returns _ _ _ _ (known_true c.can_use.ensures c.if-not-can_use.false-raw)
    c.from_row-row.ensures.0 c.if-goes-eq-DONE.true c.if-counts-eq0.false c.next_line.ensures)

pub next_line-requires-then-goes-eq0 : goal.next_line-requires-then-goes-eq0
unfolding as_row
next_line-requires-then-goes-eq0 c =
    next_few _ _ _ c.requires.0 c.from_row-row.ensures.0 1
    (known_true c.can_use.ensures c.if-not-can_use.false-raw)

pub returns-then-goes-eq0 : goal.returns-then-goes-eq0
unfolding as_row pair_at
returns-then-goes-eq0 c =
    goes_there c.going_to.ensures (exit_next _ _ _ _ (known_true c.can_use.ensures c.if-not-can_use.false-raw)
    c.from_row-row.ensures.0 c.if-goes-eq-DONE.false c.if-goes-eq0.true c.next_line-then-goes-eq0.ensures)

pub tests_of-requires : goal.tests_of-requires
unfolding as_row pair_at
tests_of-requires c =
    goes_few _ _ _ c.requires.0 c.from_row-row.ensures.0
    (known_true c.can_use.ensures c.if-not-can_use.false-raw) c.if-goes-eq-DONE.false

pub returns : goal.returns
unfolding as_row pair_at
returns c =
    goes_there c.going_to-2.ensures (exit_goes _ _ _ _ (known_true c.can_use.ensures c.if-not-can_use.false-raw)
    c.from_row-row.ensures.0 c.if-goes-eq-DONE.false c.if-goes-eq0.false c.tests_of.ensures)
