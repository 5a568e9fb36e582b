-- `word::arithmetic::low_bits` meets its contract: the remainder is by the power that `power` answers, which is not zero. Assumes nothing.
use Rattle.std.proofs.Common.{arith, pow_pos}
use Rattle.word.proofs.arithmetic.low_bits.Goals as goal

pub nonzero_rem-result : goal.nonzero_rem-result
nonzero_rem-result c = omega (arith, c.power.ensures, pow_pos c.args.b)

pub returns : goal.returns
returns c = rw c.power.ensures
