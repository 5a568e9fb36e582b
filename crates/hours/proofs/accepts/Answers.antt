-- `hours::accepts` meets its contract: test by test. Assumes nothing.
use native.Mathlib.Omega.{arith}
use Rattle.std.proofs.lemmas.Grind.{common_steps}
use Rattle.hours.specs.Hours.{accepts}
use Rattle.hours.proofs.accepts.Goals as goal

pub returns-then-list_keeps-2 : goal.returns-then-list_keeps-2
unfolding accepts
returns-then-list_keeps-2 c = grind (arith, common_steps)

pub returns-else-list_keeps-2 : goal.returns-else-list_keeps-2
unfolding accepts
returns-else-list_keeps-2 c = grind (arith, common_steps)
