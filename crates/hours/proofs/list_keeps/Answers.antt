-- `hours::list_keeps` meets its contract: by the list's length. Assumes nothing.
use native.Mathlib.Omega.{arith}
use Rattle.std.proofs.lemmas.Grind.{common_steps}
use Rattle.hours.specs.Hours.{list_keeps}
use Rattle.hours.proofs.list_keeps.Goals as goal

pub returns-then-list-n-eq0 : goal.returns-then-list-n-eq0
unfolding list_keeps
returns-then-list-n-eq0 c = grind (arith, common_steps)

pub returns-else-list-n-eq0 : goal.returns-else-list-n-eq0
unfolding list_keeps
returns-else-list-n-eq0 c = grind (arith, common_steps)
