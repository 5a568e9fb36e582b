-- `operations::values::subtracted` meets its contract: a greater subtrahend stops it (`too_great`), and another gives the difference
-- (`not_greater`). Assumes nothing.
use Rattle.operations.proofs.Made.{too_great, not_greater}
use native.Mathlib.Omega.{arith}
use Rattle.operations.proofs.values.subtracted.Goals as goal

pub returns-then-x-y : goal.returns-then-x-y
returns-then-x-y c = too_great _ _ c.if-x-y.true

pub subtract-requires : goal.subtract-requires
subtract-requires c = (omega (arith, c.requires.0), c.if-x-y.false, c.requires.1)

pub returns : goal.returns
returns c = not_greater _ _ c.if-x-y.false c.subtract.ensures
