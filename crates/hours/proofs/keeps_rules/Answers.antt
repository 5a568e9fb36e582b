-- `hours::keeps_rules` meets its contract: by the name and the fifth number. Assumes nothing.
use native.Mathlib.Omega.{arith}
use Rattle.std.proofs.lemmas.Grind.{common_steps}
use Rattle.hours.specs.Hours.{keeps}
use Rattle.hours.proofs.keeps_rules.Goals as goal

pub returns-then-not-has_name : goal.returns-then-not-has_name
unfolding keeps
returns-then-not-has_name c = grind (arith, common_steps)

pub returns-in-0 : goal.returns-in-0
unfolding keeps
returns-in-0 c = grind (arith, common_steps)

pub returns-in-1 : goal.returns-in-1
unfolding keeps
returns-in-1 c = grind (arith, common_steps)

pub returns-in_default : goal.returns-in_default
unfolding keeps
returns-in_default c = grind (arith, common_steps)
