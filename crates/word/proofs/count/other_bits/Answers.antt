-- `word::count::other_bits` meets its contract: the two calls' answers put one into the other are what is asked, as low bits are below 2^w.
-- Assumes nothing.
use Rattle.std.proofs.Common.{mod-lt, pow_pos}
use Rattle.word.proofs.count.other_bits.Goals as goal

pub complement-requires : goal.complement-requires
complement-requires c = (c.requires, rw c.low_bits.ensures (mod-lt c.args.v (pow_pos c.args.w)))

pub returns : goal.returns
returns c = rw (c.complement.ensures, c.low_bits.ensures)
