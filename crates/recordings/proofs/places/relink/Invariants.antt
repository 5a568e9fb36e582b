use Rattle.recordings.proofs.Pushing.{Relinking}
use Rattle.recordings.proofs.places.relink.Given as goal

abbrev pub invariant-loop-k : goal.invariant-loop-k
invariant-loop-k l = Relinking l.list l.count l.initial.output l.initial.heads l.output l.heads l.k
