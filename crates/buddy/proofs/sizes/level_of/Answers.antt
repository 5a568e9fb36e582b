-- `level_of` gives the level of n up to k. Assumes nothing.
use Rattle.std.proofs.Common.{◌-◌, sym, arith}
use lib.Count.{leading_le}
use Rattle.buddy.proofs.Level.{level_none, level_below, level_above}
use Rattle.buddy.proofs.sizes.level_of.Goals as goal

pub returns-then-n-eq0 : goal.returns-then-n-eq0
returns-then-n-eq0 c = sym (level_none _ _ c.if-n-eq0.true)

pub overflow_cast-least : goal.overflow_cast-least
overflow_cast-least c = record { fits = omega (arith, leading_le 64 (c.args.n - 1)) }

pub overflow_sub-least-2 : goal.overflow_sub-least-2
overflow_sub-least-2 c = omega (arith, leading_le 64 (c.args.n - 1))

pub returns-then-least-k : goal.returns-then-least-k
returns-then-least-k c = level_below _ _ (omega arith) (omega arith) (omega arith)

pub returns-else-least-k : goal.returns-else-least-k
returns-else-least-k c = level_above _ _ (omega arith) (omega arith) (omega arith)
