-- `recordings::places::put_link` meets its contract: what the calls read and put is what is asked; the link fits the lower half.
-- Assumes nothing.
use native.Mathlib.Omega.{arith}
use Rattle.recordings.proofs.places.put_link.Goals as goal

pub second_of-second-requires : goal.second_of-second-requires
second_of-second-requires c =
    c.requires.0

pub overflow_add-second : goal.overflow_add-second
overflow_add-second c =
    omega (arith, c.requires.1)

pub put_second-requires : goal.put_second-requires
put_second-requires c =
    c.requires.0

pub returns : goal.returns
returns c =
    rw (c.put_second.ensures, c.second_of-second.ensures)
