-- `operations::actions::plan_print` meets its contract: its operands as written. Assumes nothing.
use mathlib.Core.Path.{◌∙◌}
use Rattle.table.specs.Row.{as_row, pair_at}
use Rattle.machine.proofs.Checks.{bind_yes, bind_no}
use Rattle.operands.proofs.Answers.{value_is, no_value_is}
use Rattle.operations.specs.Plans.{print_plan}
use Rattle.operations.proofs.Answers.{exits_planned, follows}
use Rattle.operations.proofs.actions.plan_print.Goals as goal

pub operand-requires : goal.operand-requires
unfolding as_row pair_at
operand-requires c = (c.requires.0, rw c.pair_at-first.ensures c.requires.2)

pub returns-in_err-n : goal.returns-in_err-n
unfolding print_plan as_row pair_at
returns-in_err-n c = exits_planned _ c.from_residual.ensures.1 (bind_no _ _ (no_value_is _ _ (rw c.pair_at-first.ensures at c.operand.ensures) c.in_err-n.was))

pub operand-requires-2 : goal.operand-requires-2
unfolding as_row pair_at
operand-requires-2 c = (c.requires.0, rw c.pair_at-second.ensures c.requires.3)

pub print-requires : goal.print-requires
print-requires c =
    c.requires.1

pub returns : goal.returns
unfolding print_plan as_row pair_at
returns c =
    follows (bind_yes _ _ (value_is _ _ (rw c.pair_at-first.ensures at c.operand.ensures) c.in_ok-n.was) ∙ bind_yes _ _
    (value_is _ _ (rw c.pair_at-second.ensures at c.operand-2.ensures) c.in_ok-v.was))
    (rw c.width_of.ensures at c.print.ensures)

pub returns-in_err-v : goal.returns-in_err-v
unfolding print_plan as_row pair_at
returns-in_err-v c =
    exits_planned _ c.from_residual-in_err-v.ensures.1 (bind_yes _ _ (value_is _ _ (rw c.pair_at-first.ensures at c.operand.ensures) c.in_ok-n.was) ∙ bind_no _ _
    (no_value_is _ _ (rw c.pair_at-second.ensures at c.operand-2.ensures) c.in_err-v.was))
