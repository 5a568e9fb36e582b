-- `pair_start` rounds a place down to a multiple of the size of two halves. Assumes nothing.
use Rattle.std.proofs.Common.{◌+◌, div-mul-le_self, arith, rules}
use Rattle.buddy.specs.Upward.{pair_start}
use Rattle.buddy.proofs.tree.pair_start.Goals as goal

pub overflow_mul-result : goal.overflow_mul-result
overflow_mul-result c = record { fits = omega (arith, div-mul-le_self c.args.at (c.args.n + c.args.n)) }

pub returns : goal.returns
unfolding pair_start
returns c = search rules
