-- `layout::record::short_at` meets its contract: the number of two bytes is the first and 256 times the second (`short_at`). Assumes nothing.
use native.Mathlib.Omega.{arith}
use Rattle.layout.proofs.Widths.{short_at}
use Rattle.layout.proofs.record.short_at.Goals as goal

pub returns : goal.returns
returns c = omega (arith, short_at c.args.at c.args.bytes.now c.requires)
