use Rattle.faults.proofs.Naming.{Seeking}
use Rattle.faults.proofs.names.row_beside.Given as goal

abbrev pub invariant-loop-label : goal.invariant-loop-label
invariant-loop-label l = Seeking l.known l.key l.label-index
