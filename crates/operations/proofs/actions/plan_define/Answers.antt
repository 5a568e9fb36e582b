-- `operations::actions::plan_define` meets its contract: its operands as written. Assumes nothing.
use mathlib.Core.Path.{◌∙◌}
use native.Mathlib.Omega.{arith}
use Rattle.table.specs.Row.{as_row, pair_at}
use Rattle.machine.proofs.Checks.{bind_yes, bind_no}
use Rattle.operands.proofs.Answers.{value_is, no_value_is}
use Rattle.operations.specs.Plans.{define_plan}
use Rattle.operations.proofs.Answers.{exits_planned, follows}
use Rattle.operations.proofs.actions.plan_define.Goals as goal

pub operand-requires : goal.operand-requires
unfolding as_row pair_at
operand-requires c = (c.requires.0, rw c.pair_at-first.ensures c.requires.1)

pub returns-in_err-word : goal.returns-in_err-word
unfolding define_plan as_row pair_at
returns-in_err-word c = exits_planned _ c.from_residual.ensures.1 (bind_no _ _ (no_value_is _ _ (rw c.pair_at-first.ensures at c.operand.ensures) c.in_err-word.was))

pub operand-requires-2 : goal.operand-requires-2
unfolding as_row pair_at
operand-requires-2 c = (c.requires.0, rw c.pair_at-second.ensures c.requires.2)

pub returns-in_err-left : goal.returns-in_err-left
unfolding define_plan as_row pair_at
returns-in_err-left c =
    exits_planned _ c.from_residual-in_err-left.ensures.1 (bind_yes _ _ (value_is _ _ (rw c.pair_at-first.ensures at c.operand.ensures) c.in_ok-word.was) ∙ bind_no _ _
    (no_value_is _ _ (rw c.pair_at-second.ensures at c.operand-2.ensures) c.in_err-left.was))

pub operand-requires-3 : goal.operand-requires-3
unfolding as_row pair_at
operand-requires-3 c = (c.requires.0, rw c.pair_at-third.ensures c.requires.3)

pub bounds-row-3 : goal.bounds-row-3
bounds-row-3 c =
    omega (arith, c.requires.5)

pub define-requires : goal.define-requires
unfolding as_row
define-requires c =
    (c.requires.0.width, c.requires.4)

pub returns : goal.returns
unfolding define_plan as_row pair_at
returns c =
    follows (bind_yes _ _ (value_is _ _ (rw c.pair_at-first.ensures at c.operand.ensures) c.in_ok-word.was) ∙ bind_yes _ _
    (value_is _ _ (rw c.pair_at-second.ensures at c.operand-2.ensures) c.in_ok-left.was) ∙ bind_yes _ _
    (value_is _ _ (rw c.pair_at-third.ensures at c.operand-3.ensures) c.in_ok-right.was)) c.define.ensures

pub returns-in_err-right : goal.returns-in_err-right
unfolding define_plan as_row pair_at
returns-in_err-right c =
    exits_planned _ c.from_residual-in_err-right.ensures.1 (bind_yes _ _ (value_is _ _ (rw c.pair_at-first.ensures at c.operand.ensures) c.in_ok-word.was) ∙ bind_yes _ _
    (value_is _ _ (rw c.pair_at-second.ensures at c.operand-2.ensures) c.in_ok-left.was) ∙ bind_no _ _
    (no_value_is _ _ (rw c.pair_at-third.ensures at c.operand-3.ensures) c.in_err-right.was))
