use Rattle.character.specs.Triples.{triples}
use Rattle.word.proofs.Filling.{Fills}
use Rattle.character.proofs.triples.fill.Given as goal

abbrev pub invariant-loop-k : goal.invariant-loop-k
invariant-loop-k l = Fills 0 1000 (triples 1000) l.initial.buffer l.buffer l.k
