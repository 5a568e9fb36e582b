-- `operations::actions::plan_contents` meets its contract: a located, then 19 or 20. Assumes nothing.
use Rattle.table.specs.Row.{as_row, pair_at}
use Rattle.machine.specs.Locate.{locate}
use Rattle.operands.specs.Reading.{leads}
use Rattle.machine.proofs.Checks.{bind_no}
use Rattle.operands.proofs.Answers.{at_is, holds_is, stopped_is}
use Rattle.operations.specs.Deeds.{meant}
use Rattle.operations.specs.Plans.{contents_plan}
use Rattle.operations.proofs.Answers.{does, stops, exits_planned}
use Rattle.operations.proofs.Stacks.{save_full, save_done, restore_empty, restore_done}
use Rattle.operations.proofs.actions.plan_contents.Goals as goal

pub locate-requires : goal.locate-requires
unfolding as_row pair_at
locate-requires c = (c.requires.0, c.requires.2)

pub returns-in_err-a : goal.returns-in_err-a
unfolding contents_plan locate leads as_row pair_at
returns-in_err-a c = exits_planned _ c.from_residual.ensures.1 (bind_no _ _ (stopped_is _ _ c.locate.ensures c.in_err-a.was))

pub returns-then-count-ge-STACK : goal.returns-then-count-ge-STACK
unfolding locate leads as_row pair_at
returns-then-count-ge-STACK c =
    stops (save_full _ _ _ _ _ (at_is _ _ c.locate.ensures c.in_ok-a.was) c.if-row-eq-SAVE.true
    c.if-count-ge-STACK.true)

pub returns-then-row-eq-SAVE : goal.returns-then-row-eq-SAVE
unfolding locate leads as_row pair_at meant
returns-then-row-eq-SAVE c =
    does _ (save_done _ _ _ _ _ (at_is _ _ c.locate.ensures c.in_ok-a.was) c.if-row-eq-SAVE.true
    c.if-count-ge-STACK.false (holds_is _ _ c.locate.ensures c.in_ok-a.was))

pub returns-then-count-eq0 : goal.returns-then-count-eq0
unfolding locate leads as_row pair_at
returns-then-count-eq0 c =
    stops (restore_empty _ _ _ _ _ (at_is _ _ c.locate.ensures c.in_ok-a.was) c.if-row-eq-SAVE.false
    c.if-count-eq0.true)

pub returns : goal.returns
unfolding locate leads as_row pair_at meant
returns c =
    does _ (restore_done _ _ _ _ _ (at_is _ _ c.locate.ensures c.in_ok-a.was)
    c.if-row-eq-SAVE.false c.if-count-eq0.false)
