-- `plans::places::next_line` meets its contract. Each branch is one case of the definition: no next line (`next_none`), or one
-- (`next_some`). Assumes nothing.
use Rattle.plans.proofs.Going.{next_none, next_some}
use Rattle.plans.proofs.places.next_line.Goals as goal

pub returns-then-next-eq0 : goal.returns-then-next-eq0
returns-then-next-eq0 c = next_none _ c.if-next-eq0.true

pub returns : goal.returns
returns c = next_some _ c.if-next-eq0.false c.tests_of.ensures
