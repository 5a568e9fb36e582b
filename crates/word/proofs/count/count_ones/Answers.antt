-- `word::count::count_ones` meets its contract: the ones of the low bits are those of the field (`ones_low`). Assumes nothing.
use Rattle.std.proofs.Common.{arith}
use lib.Count.{ones-le}
use Rattle.word.proofs.Places.{ones_low}
use Rattle.word.proofs.count.count_ones.Goals as goal

pub overflow_cast-result : goal.overflow_cast-result
overflow_cast-result c = record { fits = omega (arith, ones-le 64 c.low_bits.result (omega arith)) }

pub returns : goal.returns
returns c = rw c.low_bits.ensures (ones_low c.args.w c.args.v)
