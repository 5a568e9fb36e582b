-- `recordings::put_row` meets its contract: the pair put is made of the two numbers read, as the definition has it. Assumes nothing.
use native.Mathlib.Omega.{arith}
use Rattle.recordings.proofs.put_row.Goals as goal

pub number_of-requires : goal.number_of-requires
number_of-requires c =
    omega (arith, c.requires.0)

pub number_of-requires-2 : goal.number_of-requires-2
number_of-requires-2 c =
    c.requires.0

pub put_pair-requires : goal.put_pair-requires
put_pair-requires c =
    c.requires.1

pub returns : goal.returns
returns c =
    rw (c.put_pair.ensures, c.number_of.ensures, c.number_of-2.ensures)
