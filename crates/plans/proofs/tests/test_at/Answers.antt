-- `plans::tests::test_at` meets its contract: its 2, then its operands. Assumes nothing.
use native.Mathlib.Omega.{arith}
use Rattle.word.proofs.Tests.{known_false, known_true}
use Rattle.table.specs.Row.{as_row, pair_at}
use Rattle.machine.specs.Test.{testing}
use Rattle.machine.proofs.Checks.{need_no}
use Rattle.operands.proofs.Answers.{value_is, no_value_is}
use Rattle.plans.proofs.Answers.{tests_to, test_stops, exits_test}
use Rattle.plans.proofs.Rows.{used, test_row_is}
use Rattle.plans.proofs.Testing.{test_first, test_second, test_made}
use Rattle.plans.proofs.tests.test_at.Goals as goal

pub can_use-requires : goal.can_use-requires
can_use-requires c = c.requires.1

pub returns-then-not-can_use : goal.returns-then-not-can_use
unfolding testing
returns-then-not-can_use c = test_stops (need_no _ _ _ (known_false c.can_use.ensures c.if-not-can_use.true-raw))

pub from_row-row-requires : goal.from_row-row-requires
from_row-row-requires c = (used 2 _ _ _ (known_true c.can_use.ensures c.if-not-can_use.false-raw)).room

pub operand-requires : goal.operand-requires
unfolding as_row pair_at
operand-requires c = (
  c.requires.0,
  rw c.pair_at-first.ensures (test_row_is _ _ _ c.from_row-row.ensures.0 (known_true c.can_use.ensures c.if-not-can_use.false-raw)).c,
)

pub returns-in_err-c : goal.returns-in_err-c
unfolding as_row pair_at
returns-in_err-c c =
    exits_test _ c.from_residual.ensures.1 (test_first _ _ _ _ (known_true c.can_use.ensures c.if-not-can_use.false-raw)
    c.from_row-row.ensures.0 (no_value_is _ _ (rw c.pair_at-first.ensures at c.operand.ensures) c.in_err-c.was))

pub operand-requires-2 : goal.operand-requires-2
unfolding as_row pair_at
operand-requires-2 c = (
  c.requires.0,
  rw c.pair_at-second.ensures (test_row_is _ _ _ c.from_row-row.ensures.0 (known_true c.can_use.ensures c.if-not-can_use.false-raw)).cd,
)

pub compared-requires : goal.compared-requires
unfolding as_row
compared-requires c =
    let row = test_row_is _ _ _ c.from_row-row.ensures.0 (known_true c.can_use.ensures c.if-not-can_use.false-raw)
    in
    (omega (arith, c.requires.0.width), row.low, row.high)

pub returns : goal.returns
unfolding as_row pair_at
returns c =
    tests_to _ (test_made _ _ _ _ (known_true c.can_use.ensures c.if-not-can_use.false-raw) c.from_row-row.ensures.0
    (value_is _ _ (rw c.pair_at-first.ensures at c.operand.ensures) c.in_ok-c.was)
    (value_is _ _ (rw c.pair_at-second.ensures at c.operand-2.ensures) c.in_ok-cd.was) c.compared.ensures)

pub returns-in_err-cd : goal.returns-in_err-cd
unfolding as_row pair_at
returns-in_err-cd c =
    exits_test _ c.from_residual-in_err-cd.ensures.1 (test_second _ _ _ _ (known_true c.can_use.ensures c.if-not-can_use.false-raw)
    c.from_row-row.ensures.0 (value_is _ _ (rw c.pair_at-first.ensures at c.operand.ensures) c.in_ok-c.was)
    (no_value_is _ _ (rw c.pair_at-second.ensures at c.operand-2.ensures) c.in_err-cd.was))
