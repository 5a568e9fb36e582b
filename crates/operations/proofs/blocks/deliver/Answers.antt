-- `operations::blocks::deliver` meets its contract: one store, or a2 located after the delivery. Assumes nothing.
use Rattle.operands.proofs.Storing.{reached_bugs}
use Rattle.operations.specs.Deeds.{meant}
use Rattle.operations.proofs.Answers.{does, exits_planned}
use Rattle.operations.proofs.Doing.{delivers_one, delivers_two, delivers_stopped, stored_readable, stored_deliverable}
use Rattle.operations.proofs.blocks.deliver.Goals as goal

pub returns-then-third-eq-ABSENT : goal.returns-then-third-eq-ABSENT
unfolding meant
returns-then-third-eq-ABSENT c = does _ (delivers_one _ _ _ _ _ _ c.if-third-eq-ABSENT.true)

pub bugs_after-after-requires : goal.bugs_after-after-requires
bugs_after-after-requires c =
    (c.requires.0.width, reached_bugs _ _ _ _ c.requires.1.reached)

pub locate_through-requires : goal.locate_through-requires
locate_through-requires c = (
  stored_readable _ _ _ _ c.requires.0 c.bugs_after-after.ensures,
  stored_deliverable _ _ c.bugs_after-after.result _ _ _ c.requires.1,
  c.requires.2 c.if-third-eq-ABSENT.false,
)

pub returns : goal.returns
unfolding meant
returns c =
    does _ (delivers_two _ _ _ _ _ _ c.if-third-eq-ABSENT.false c.bugs_after-after.ensures
    c.locate_through.ensures c.in_ok-second.was c.requires.3)

pub returns-in_err-second : goal.returns-in_err-second
returns-in_err-second c =
    exits_planned _ c.from_residual.ensures.1 (delivers_stopped _ _ _ _ _ _ c.if-third-eq-ABSENT.false c.bugs_after-after.ensures
    c.locate_through.ensures c.in_err-second.was)
