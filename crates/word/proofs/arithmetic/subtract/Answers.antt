-- `word::arithmetic::subtract` meets its contract: a difference that is not negative is its own remainder. Assumes nothing.
use Rattle.std.proofs.Common.{mod-eq_of_lt, arith, rules}
use Rattle.word.proofs.Modulo.{unwrapped}
use Rattle.word.proofs.arithmetic.subtract.Goals as goal

pub returns : goal.returns
returns c =
    let (_, less, small) = c.requires in
    rw (c.low_bits.ensures, unwrapped _ _ _ less (search rules) c.wrapping_sub_u64.ensures.value)
    (mod-eq_of_lt (omega (arith, small)))
