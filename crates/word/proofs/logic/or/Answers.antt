-- `word::logic::or` meets its contract: the low bits of the "or" of two numbers are the definition's bits, place by place (`or_low`).
-- Assumes nothing.
use Rattle.word.proofs.Bitwise.{or_low}
use Rattle.word.proofs.logic.or.Goals as goal

pub returns : goal.returns
returns c = rw c.low_bits.ensures (or_low c.args.b c.args.x c.args.y)
