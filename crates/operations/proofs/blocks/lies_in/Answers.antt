-- `operations::blocks::lies_in` meets its contract: a bug lies outside (`bug_outside`), so does a word before the block (`below_outside`),
-- and another is tested (`from_start`). Assumes nothing.
use Rattle.operands.proofs.Numbers.{bug_number}
use Rattle.operations.proofs.Doing.{bug_outside, below_outside, from_start}
use Rattle.operations.proofs.blocks.lies_in.Goals as goal

pub returns-then-at-lt-FIELDS : goal.returns-then-at-lt-FIELDS
returns-then-at-lt-FIELDS c = bug_outside _ _ (bug_number _ c.if-at-lt-FIELDS.true)

pub bits_of-bits-requires : goal.bits_of-bits-requires
bits_of-bits-requires c = c.if-at-lt-FIELDS.false

pub returns-then-bits-address : goal.returns-then-bits-address
returns-then-bits-address c = below_outside _ _ c.bits_of-bits.ensures.0 c.if-bits-address.true

pub returns : goal.returns
returns c = from_start _ _ c.bits_of-bits.ensures.0 c.if-bits-address.false
