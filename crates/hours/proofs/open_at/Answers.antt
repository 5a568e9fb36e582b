-- `hours::open_at` meets its contract: each return by the tests that lead there. Assumes nothing.
use Rattle.std.proofs.Common.{arith}
use Rattle.std.proofs.lemmas.Grind.{common_steps}
use Rattle.hours.specs.Hours.{counting, open_at}
use Rattle.hours.proofs.Answering.{answered}
use Rattle.hours.proofs.open_at.Goals as goal

pub returns-then-not-accepts-clause-value : goal.returns-then-not-accepts-clause-value
unfolding open_at
returns-then-not-accepts-clause-value c = grind (arith, common_steps)

pub returns-then-not-accepts-clause-numbered : goal.returns-then-not-accepts-clause-numbered
returns-then-not-accepts-clause-numbered c = (answered _ _ _ _ (returns-then-not-accepts-clause-value c)).1

pub returns-then-any_names-clause-value : goal.returns-then-any_names-clause-value
unfolding open_at counting
returns-then-any_names-clause-value c = grind (arith, common_steps)

pub returns-then-any_names-clause-numbered : goal.returns-then-any_names-clause-numbered
returns-then-any_names-clause-numbered c = (answered _ _ _ _ (returns-then-any_names-clause-value c)).1

pub returns-clause-value : goal.returns-clause-value
unfolding open_at counting
returns-clause-value c = grind (arith, common_steps)

pub returns-clause-numbered : goal.returns-clause-numbered
returns-clause-numbered c = (answered _ _ _ _ (returns-clause-value c)).1
