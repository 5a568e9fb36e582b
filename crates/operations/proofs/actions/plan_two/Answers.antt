-- `operations::actions::plan_two` meets its contract: a located, x taken, and then by the code. Assumes nothing.
use mathlib.Core.Path.{◌∙◌}
use Rattle.table.specs.Row.{as_row, pair_at}
use Rattle.machine.specs.Locate.{locate}
use Rattle.operands.specs.Reading.{leads}
use Rattle.machine.proofs.Checks.{bind_yes, bind_no}
use Rattle.operands.proofs.Readable.{leads_reached}
use Rattle.operands.proofs.Answers.{at_is, holds_is, stopped_is, value_is, no_value_is}
use Rattle.operands.proofs.Operands.{operand_small}
use Rattle.operations.specs.Plans.{two_plan}
use Rattle.operations.proofs.Answers.{exits_planned, follows}
use Rattle.operations.proofs.actions.plan_two.Goals as goal

pub locate-requires : goal.locate-requires
unfolding as_row pair_at
locate-requires c = (c.requires.0, c.requires.3)

pub returns-in_err-a : goal.returns-in_err-a
unfolding two_plan locate leads as_row pair_at
returns-in_err-a c = exits_planned _ c.from_residual.ensures.1 (bind_no _ _ (stopped_is _ _ c.locate.ensures c.in_err-a.was))

pub operand-requires : goal.operand-requires
unfolding as_row pair_at
operand-requires c = (c.requires.0, rw c.pair_at-second.ensures c.requires.4)

pub act-requires : goal.act-requires
unfolding as_row pair_at
act-requires c =
    let small = operand_small _ _ c.requires.0 _ c.requires.4 _
    (value_is _ _ (rw c.pair_at-second.ensures at c.operand.ensures) c.in_ok-x.was) in (
      c.requires.0,
      c.requires.1,
      leads_reached _ _ c.requires.0 _ c.requires.3 (at_is _ _ c.locate.ensures c.in_ok-a.was),
      small.0,
      small.1,
      c.requires.2,
      c.requires.5,
      holds_is _ _ c.locate.ensures c.in_ok-a.was,
      c.requires.6,
    )

pub returns : goal.returns
unfolding two_plan locate leads as_row pair_at
returns c =
    follows (bind_yes _ _ (at_is _ _ c.locate.ensures c.in_ok-a.was) ∙ bind_yes _ _
    (value_is _ _ (rw c.pair_at-second.ensures at c.operand.ensures) c.in_ok-x.was)) c.act.ensures

pub returns-in_err-x : goal.returns-in_err-x
unfolding two_plan locate leads as_row pair_at
returns-in_err-x c =
    exits_planned _ c.from_residual-in_err-x.ensures.1 (bind_yes _ _ (at_is _ _ c.locate.ensures c.in_ok-a.was) ∙ bind_no _ _
    (no_value_is _ _ (rw c.pair_at-second.ensures at c.operand.ensures) c.in_err-x.was))
