-- `word::count::leftmost_zero` meets its contract: the leftmost one of the complement is the leftmost zero (`leftmost_flip`).
-- Assumes nothing.
use Rattle.word.proofs.Places.{leftmost_flip}
use Rattle.word.proofs.count.leftmost_zero.Goals as goal

pub returns : goal.returns
returns c =
    rw (c.leftmost_one.ensures, c.other_bits.ensures) (leftmost_flip c.args.w c.args.v)
