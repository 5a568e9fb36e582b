use Prim.Native.Nat.{◌-◌}
use Rattle.octets.specs.Octets.{bytes_of}
use Rattle.word.proofs.Filling.{Fills}
use Rattle.octets.proofs.Writing.{Rest}
use Rattle.octets.proofs.put_number.Given as goal

abbrev pub invariant-loop-i : goal.invariant-loop-i
invariant-loop-i l = Rest l.n l.v l.i l.rest × Fills l.at l.n (bytes_of l.n l.v) l.initial.bytes l.bytes l.i
