-- `player::rehearsing::l6_silent` meets its contract: what is told of the silent stops, and the answer and count made of it, are what is
-- asked (`both_left`). Assumes nothing.
use Rattle.player.proofs.Telling.{both_left}
use Rattle.player.proofs.rehearsing.l6_silent.Goals as goal

pub returns : goal.returns
returns c = both_left _ _ _ c.write_silent-told.ensures.output_after c.tell.ensures
