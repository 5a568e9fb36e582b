-- `plans::places::operation_or_exit` meets its contract. Each branch is one case of the definition: no row (`exits`), or an operation's
-- (`operates`). Assumes nothing.
use Rattle.plans.proofs.Going.{exits, operates}
use Rattle.plans.proofs.places.operation_or_exit.Goals as goal

pub returns-then-row-eq0 : goal.returns-then-row-eq0
returns-then-row-eq0 c = exits _ c.if-row-eq0.true

pub returns : goal.returns
returns c = operates _ c.if-row-eq0.false
