-- `defined::sets::contains` meets its contract: beyond bit 63 a word has no bit (`has_far`), and otherwise the test is the definition's.
-- Assumes nothing.
use Rattle.defined.proofs.Reading.{has_far}
use native.Mathlib.Omega.{arith}
use Rattle.defined.specs.Search.{has}
use lib.Pow.{pow_pos}
use Rattle.defined.proofs.sets.contains.Goals as goal

pub returns-then-n-gt-LAST_BIT : goal.returns-then-n-gt-LAST_BIT
returns-then-n-gt-LAST_BIT c = has_far _ _ (omega arith) (omega arith)

pub nonzero_div-result : goal.nonzero_div-result
nonzero_div-result c = rw c.power.ensures (pow_pos _)

pub returns : goal.returns
unfolding has
returns c = rw c.power.ensures
