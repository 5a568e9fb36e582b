use Rattle.silence.specs.Silence.{test_of}
use Rattle.silence.proofs.Putting.{Putting}
use Rattle.silence.proofs.put_picked.Given as goal

abbrev pub invariant-loop-i : goal.invariant-loop-i
invariant-loop-i l = Putting (test_of l.asked l.pairs) l.stops l.initial.output l.i l.n l.output
