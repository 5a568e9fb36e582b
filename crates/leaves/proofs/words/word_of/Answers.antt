-- `leaves::words::word_of` meets its contract. A remainder by 2 ^ b is below 2 ^ b. Assumes nothing.
use native.Mathlib.Nat.{mod-lt}
use lib.Pow.{pow_pos}
use Rattle.leaves.proofs.words.word_of.Goals as goal

pub returns : goal.returns
returns c = rw c.low_bits.ensures (mod-lt _ (pow_pos c.args.b))
