use Rattle.octets.proofs.Reading.{Low}
use Rattle.octets.proofs.number_at.Given as goal

abbrev pub invariant-loop-left : goal.invariant-loop-left
invariant-loop-left l = Low l.bytes l.at l.n l.left l.number
