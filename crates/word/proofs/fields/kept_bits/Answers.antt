-- `word::fields::kept_bits` meets its contract: the low bits of the field's width are the bits kept (`kept_is`). Assumes nothing.
use Rattle.std.proofs.Common.{sym, arith}
use Rattle.word.specs.Field.{width}
use Rattle.word.proofs.Field.{kept_is}
use Rattle.word.proofs.fields.kept_bits.Goals as goal

pub low_bits-requires : goal.low_bits-requires
unfolding width
low_bits-requires c = omega (arith, c.width.ensures)

pub returns : goal.returns
returns c = rw (c.low_bits.ensures, c.width.ensures) (sym (kept_is _ _ _))
