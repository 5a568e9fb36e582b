-- `operations::values::divided` meets its contract: a divisor of zero stops it (`no_divisor`), and another gives the quotient (`divisor`).
-- Assumes nothing.
use Rattle.operations.proofs.Made.{no_divisor, divisor}
use Rattle.operations.proofs.values.divided.Goals as goal

pub returns-then-y-eq0 : goal.returns-then-y-eq0
returns-then-y-eq0 c = no_divisor _ _ c.if-y-eq0.true

pub returns : goal.returns
returns c = divisor _ _ c.if-y-eq0.false c.divide.ensures
