-- `operations::actions::make` meets its contract: what is made is stored. Assumes nothing.
use Rattle.operations.specs.Deeds.{meant}
use Rattle.operations.proofs.Answers.{does, exits_planned}
use Rattle.operations.proofs.Doing.{store_made, store_stopped}
use Rattle.operations.proofs.actions.make.Goals as goal

pub compute-requires : goal.compute-requires
compute-requires c = c.requires

pub returns : goal.returns
unfolding meant
returns c = does _ (store_made _ _ c.compute.ensures c.in_ok-value.was)

pub returns-in_err-value : goal.returns-in_err-value
returns-in_err-value c = exits_planned _ c.from_residual.ensures.1 (store_stopped _ _ c.compute.ensures c.in_err-value.was)
