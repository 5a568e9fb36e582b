-- `word::arithmetic::power` meets its contract: a one shifted by less than 64 places stays. Assumes nothing.
use Rattle.std.proofs.Common.{mod-eq_of_lt, one-mul}
use lib.Pow.{pow-lt}
use Rattle.word.proofs.arithmetic.power.Goals as goal

pub returns : goal.returns
returns c = rw one-mul (mod-eq_of_lt (pow-lt {j = 64} c.requires))
