-- `operations::actions::plan_swap` meets its contract: both located, and then each gets what the other held. Assumes nothing.
use mathlib.Core.Path.{◌∙◌}
use Rattle.table.specs.Row.{as_row, pair_at}
use Rattle.machine.specs.Locate.{locate}
use Rattle.operands.specs.Reading.{leads}
use Rattle.machine.proofs.Checks.{bind_yes, bind_no}
use Rattle.operands.proofs.Answers.{at_is, holds_is, stopped_is}
use Rattle.operations.specs.Deeds.{meant}
use Rattle.operations.specs.Plans.{swap_plan}
use Rattle.operations.proofs.Answers.{does, exits_planned}
use Rattle.operations.proofs.Doing.{swaps}
use Rattle.operations.proofs.actions.plan_swap.Goals as goal

pub locate-requires : goal.locate-requires
unfolding as_row pair_at
locate-requires c = (c.requires.0, c.requires.1)

pub returns-in_err-a : goal.returns-in_err-a
unfolding swap_plan locate leads as_row pair_at
returns-in_err-a c = exits_planned _ c.from_residual.ensures.1 (bind_no _ _ (stopped_is _ _ c.locate.ensures c.in_err-a.was))

pub locate-requires-2 : goal.locate-requires-2
unfolding as_row pair_at
locate-requires-2 c =
    (c.requires.0, c.requires.2)

pub returns-in_err-c : goal.returns-in_err-c
unfolding swap_plan locate leads as_row pair_at
returns-in_err-c c =
    exits_planned _ c.from_residual-in_err-c.ensures.1 (bind_yes _ _ (at_is _ _ c.locate.ensures c.in_ok-a.was) ∙ bind_no _ _
    (stopped_is _ _ c.locate-2.ensures c.in_err-c.was))

pub returns : goal.returns
unfolding locate leads as_row pair_at meant
returns c =
    does _ (swaps _ _ _ (at_is _ _ c.locate.ensures c.in_ok-a.was)
    (at_is _ _ c.locate-2.ensures c.in_ok-c.was)
    (holds_is _ _ c.locate-2.ensures c.in_ok-c.was)
    (holds_is _ _ c.locate.ensures c.in_ok-a.was))
