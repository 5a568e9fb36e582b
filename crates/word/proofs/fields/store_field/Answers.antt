-- `word::fields::store_field` meets its contract: with the field's width and places put in, the word stored is the definition's own text.
-- Assumes nothing.
use Rattle.std.proofs.Common.{arith}
use Rattle.word.specs.Field.{width, shift, kept, stored, stored_in}
use Rattle.word.proofs.fields.store_field.Goals as goal

pub store_bits-requires : goal.store_bits-requires
unfolding width shift
store_bits-requires c = omega (arith, c.places_right.ensures, c.width.ensures)

pub returns : goal.returns
unfolding stored stored_in kept
returns c = rw (c.store_bits.ensures, c.width.ensures, c.places_right.ensures)
