use Rattle.character.specs.Character.{printed}
use Rattle.word.proofs.Filling.{Fills}
use Rattle.character.proofs.print_into.Given as goal

abbrev pub invariant-loop-i : goal.invariant-loop-i
invariant-loop-i l = Fills l.at l.count (printed l.count l.width l.v) l.initial.output l.output l.i
