-- `word::fields::read_field` meets its contract: with the field's width and places put in, the bits read are the definition's own text.
-- Assumes nothing.
use Rattle.std.proofs.Common.{arith}
use Rattle.word.specs.Field.{width, shift, field_of, bits_of}
use Rattle.word.proofs.fields.read_field.Goals as goal

pub read_bits-requires : goal.read_bits-requires
unfolding width shift
read_bits-requires c = (omega (arith, c.places_right.ensures), omega (arith, c.width.ensures))

pub returns : goal.returns
unfolding field_of bits_of
returns c = rw (c.read_bits.ensures, c.width.ensures, c.places_right.ensures)
