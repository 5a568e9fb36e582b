use Prim.Native.Nat.{◌≤◌}
use lib.ListN.{take}
use Rattle.recordings.specs.Recordings.{chain}
use Rattle.recordings.specs.Walking.{stops, from}
use Rattle.recordings.proofs.Chain.{At}
use Rattle.recordings.proofs.Stops.{LeastOf}
use Rattle.recordings.proofs.next_stop.Given as goal

abbrev pub invariant-loop-i : goal.invariant-loop-i
invariant-loop-i l =
    At l.list l.i l.row × (l.i ≤ l.steps) × LeastOf (from l.last) (stops l.list (take l.i (chain l.list))) l.found
