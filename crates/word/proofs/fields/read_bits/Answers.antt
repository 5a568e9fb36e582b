-- `word::fields::read_bits` meets its contract: the low bits of the word shifted right are the definition's own text. Assumes nothing.
use Rattle.word.specs.Field.{bits_of}
use Rattle.word.proofs.fields.read_bits.Goals as goal

pub returns : goal.returns
unfolding bits_of
returns c = c.low_bits.ensures
