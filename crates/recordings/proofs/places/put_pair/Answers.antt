-- `recordings::places::put_pair` meets its contract: the two calls' numbers, put one after the other, are what is asked. Assumes nothing.
use lib.ListN.{length-set}
use Rattle.recordings.proofs.places.put_pair.Goals as goal

pub put_second-requires : goal.put_second-requires
put_second-requires c =
    rw c.put_first.ensures (simp length-set c.requires)

pub returns : goal.returns
returns c =
    rw (c.put_second.ensures, c.put_first.ensures)
