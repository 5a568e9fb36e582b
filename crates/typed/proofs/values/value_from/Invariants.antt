use Rattle.typed.proofs.Valuing.{Valuing}
use Rattle.typed.proofs.values.value_from.Given as goal

abbrev pub invariant-loop-x : goal.invariant-loop-x
invariant-loop-x l = Valuing l.kind l.before l.w l.v l.x-index
