use Rattle.lines.proofs.Literals.{Valued}
use Rattle.lines.proofs.kinds.is_number.Given as goal

abbrev pub invariant-loop-x : goal.invariant-loop-x
invariant-loop-x l = Valued l.base l.below l.w l.v l.x-index
