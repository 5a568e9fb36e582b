-- `word::logic::and` meets its contract: the low bits of the "and" of two numbers are the definition's bits, place by place (`and_low`).
-- Assumes nothing.
use Rattle.word.proofs.Bitwise.{and_low}
use Rattle.word.proofs.logic.and.Goals as goal

pub returns : goal.returns
returns c = rw c.low_bits.ensures (and_low c.args.b c.args.x c.args.y)
