-- `word::count::rightmost_zero` meets its contract: the rightmost one of the complement is the rightmost zero (`rightmost_flip`).
-- Assumes nothing.
use Rattle.word.proofs.Places.{rightmost_flip}
use Rattle.word.proofs.count.rightmost_zero.Goals as goal

pub returns : goal.returns
returns c =
    rw (c.rightmost_one.ensures, c.other_bits.ensures) (rightmost_flip c.args.w c.args.v)
