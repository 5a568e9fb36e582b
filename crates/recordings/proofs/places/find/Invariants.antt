use Rattle.recordings.specs.Walking.{chain_count}
use Rattle.recordings.proofs.Links.{Along}
use Rattle.recordings.proofs.places.find.Given as goal

abbrev pub invariant-loop-at : goal.invariant-loop-at
invariant-loop-at l = Along l.list l.output (chain_count l.heads l.size) l.count l.stop l.at

abbrev pub decreases-loop-at : goal.decreases-loop-at
decreases-loop-at l = l.at
