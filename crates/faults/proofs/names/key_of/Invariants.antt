use Rattle.faults.proofs.Keys.{Keying}
use Rattle.faults.proofs.names.key_of.Given as goal

abbrev pub invariant-loop-i : goal.invariant-loop-i
invariant-loop-i l = Keying l.w l.i l.key
