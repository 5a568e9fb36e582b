-- `lines::kinds::limit` meets its contract: a shift of one is a power of two. Assumes nothing.
use native.Mathlib.Omega.{arith}
use Rattle.character.proofs.Digits.{shifted}
use Rattle.lines.proofs.kinds.limit.Goals as goal

pub returns : goal.returns
returns c = shifted c.args.b (omega arith)
