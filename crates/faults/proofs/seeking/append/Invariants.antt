use Rattle.faults.proofs.Telling.{Appending}
use Rattle.faults.proofs.seeking.append.Given as goal

abbrev pub invariant-loop-key : goal.invariant-loop-key
invariant-loop-key l = Appending l.n l.initial.room l.found l.room l.k l.key-index
