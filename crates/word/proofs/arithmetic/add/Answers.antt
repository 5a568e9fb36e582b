-- `word::arithmetic::add` meets its contract: the wrap at 64 bits is a multiple of 2 ^ b. Assumes nothing.
use Rattle.std.proofs.Common.{le_of_lt}
use Rattle.word.specs.Word.{sum}
use Rattle.word.proofs.Modulo.{mod_mod_le}
use Rattle.word.proofs.arithmetic.add.Goals as goal

pub returns : goal.returns
unfolding sum
returns c = rw (c.low_bits.ensures, c.wrapping_add_u64.ensures.value) (mod_mod_le _ {m = 64} (le_of_lt c.requires))
