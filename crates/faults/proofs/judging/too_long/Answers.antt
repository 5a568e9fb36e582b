-- `faults::judging::too_long` meets its contract: more than 800 rows more are too many (`too_many`), and otherwise the test is the
-- definition's own text. Assumes nothing.
use mathlib.Core.Path.{refl}
use Rattle.lines.specs.Program.{too_long}
use Rattle.faults.proofs.Using.{too_many}
use Rattle.faults.proofs.judging.too_long.Goals as goal

pub returns-then-size-gt-MOST : goal.returns-then-size-gt-MOST
returns-then-size-gt-MOST c = too_many _ c.args.count c.args.size c.if-size-gt-MOST.true

pub returns : goal.returns
unfolding too_long
returns c = refl
