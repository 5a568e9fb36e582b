-- `defined::walk::walk_tests` meets its contract. Each branch is one case of the definition: a line with tests (`tests_on`), or without
-- (`tests_none`). Assumes nothing.
use Rattle.defined.proofs.Reading.{tests_on, tests_none}
use native.Mathlib.Omega.{arith}
use Rattle.defined.proofs.walk.walk_tests.Goals as goal

pub returns-then-line-ne0 : goal.returns-then-line-ne0
returns-then-line-ne0 c = tests_on _ _ _ (omega arith) c.join_to.ensures

pub returns-else-line-ne0 : goal.returns-else-line-ne0
returns-else-line-ne0 c = tests_none _ _ _ (omega arith)
