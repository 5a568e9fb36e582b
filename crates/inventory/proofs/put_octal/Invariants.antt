use mathlib.Core.List.{List}
use Prim.Native.Nat.{ℕ, ◌-◌}
use Rattle.tour.proofs.Putting.{Put}
use Rattle.inventory.proofs.Octal.{Ends}
use Rattle.inventory.proofs.put_octal.Given as goal

abbrev pub invariant-loop : goal.invariant-loop
invariant-loop l =
    (xs : List ℕ) × Ends l.digits l.n (l.digits - l.counter) l.rest xs × Put l.at xs l.initial.text l.text l.place
