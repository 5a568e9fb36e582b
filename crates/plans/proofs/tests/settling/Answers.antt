-- `plans::tests::settling` meets its contract: the two tests joined are the definition's cases of the modes 2 and 3 (`either_mode`).
-- Assumes nothing.
use Rattle.machine.specs.Test.{settling}
use Rattle.plans.proofs.Testing.{either_mode}
use Rattle.plans.proofs.tests.settling.Goals as goal

pub returns : goal.returns
unfolding settling
returns c = either_mode c.args.mode 2 3
