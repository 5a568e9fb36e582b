-- `word::logic::exclusive_or` meets its contract: the low bits of the "exclusive or" of two numbers are the definition's bits, place by
-- place (`xor_low`). Assumes nothing.
use Rattle.word.proofs.Bitwise.{xor_low}
use Rattle.word.proofs.logic.exclusive_or.Goals as goal

pub returns : goal.returns
returns c = rw c.low_bits.ensures (xor_low c.args.b c.args.x c.args.y)
