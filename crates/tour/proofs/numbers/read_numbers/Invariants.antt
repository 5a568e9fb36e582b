use Prim.Native.Nat.{◌≤◌}
use Rattle.tour.proofs.Putting.{Put}
use Rattle.tour.proofs.Tables.{from}
use Rattle.tour.proofs.numbers.read_numbers.Given as goal

abbrev pub invariant-loop-left : goal.invariant-loop-left
invariant-loop-left l = (l.left ≤ l.n) × Put l.n (from l.bytes l.n l.left) l.initial.table l.table l.left
