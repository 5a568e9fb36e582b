-- `character::digit` meets its contract: a shift is a division by a power.
-- Assumes nothing.
use lib.Pow.{pow_pos}
use Rattle.character.proofs.Digits.{shifted, power_of}
use Rattle.character.proofs.digit.Goals as goal

pub nonzero_rem-result : goal.nonzero_rem-result
nonzero_rem-result c = rw (shifted c.args.bits c.requires.0) (pow_pos c.args.bits)

pub returns : goal.returns
returns c = rw (shifted c.args.bits c.requires.0, power_of 2 c.args.bits c.args.place)
