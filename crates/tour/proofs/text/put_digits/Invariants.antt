use mathlib.Core.List.{List}
use Prim.Native.Nat.{ℕ, ◌≤◌}
use lib.ListN.{length}
use Rattle.tour.specs.Tour.{digits_within}
use Rattle.tour.proofs.Putting.{Put}
use Rattle.tour.proofs.Digits.{Ends}
use Rattle.tour.proofs.text.put_digits.Given as goal

abbrev pub invariant-loop-rest : goal.invariant-loop-rest
invariant-loop-rest l =
    (length (digits_within l.n l.n) ≤ l.at) × ((xs : List ℕ) × Ends l.n l.rest xs × Put l.at xs l.initial.text l.text l.place)

abbrev pub decreases-loop-rest : goal.decreases-loop-rest
decreases-loop-rest l = l.rest
