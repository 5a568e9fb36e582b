-- `recordings::put_few` meets its contract: the rows noted elsewhere are noted in the output then. Assumes nothing.
use Rattle.recordings.proofs.Putting.{noted_there}
use Rattle.recordings.proofs.put_few.Goals as goal

pub put_recordings-requires : goal.put_recordings-requires
put_recordings-requires c = (c.requires.0, noted_there _ c.requires.1 c.requires.2 _ c.copy_from_slice.ensures.after)
