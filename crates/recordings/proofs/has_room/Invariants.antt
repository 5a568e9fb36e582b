use mathlib.Core.Path.{◌≡◌}
use lib.Dec.{leb}
use lib.ListN.{length}
use Rattle.recordings.specs.Recordings.{all_standing}
use Rattle.recordings.specs.Walking.{stops, from}
use Rattle.recordings.proofs.Counting.{above}
use Rattle.recordings.proofs.has_room.Given as goal

abbrev pub invariant-loop-left : goal.invariant-loop-left
invariant-loop-left l =
    leb (above (from l.last) (stops l.list (all_standing l.list))) l.left ≡ leb (length (all_standing l.list)) l.room
