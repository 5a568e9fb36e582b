-- `plans::tests::settled_as` meets its contract: the two tests joined are the definition's cases of the modes 2 and 4 (`either_mode`).
-- Assumes nothing.
use Rattle.machine.specs.Test.{settled_as}
use Rattle.plans.proofs.Testing.{either_mode}
use Rattle.plans.proofs.tests.settled_as.Goals as goal

pub returns : goal.returns
unfolding settled_as
returns c = either_mode c.args.mode 2 4
