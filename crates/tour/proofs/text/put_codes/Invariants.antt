use mathlib.Core.Path.{◌≡◌}
use Prim.Native.Nat.{◌≤◌}
use lib.ListN.{length, drop}
use Rattle.tour.specs.Tour.{octals, after_code}
use Rattle.tour.proofs.Putting.{Put}
use Rattle.tour.proofs.text.put_codes.Given as goal

abbrev pub invariant-loop-left : goal.invariant-loop-left
invariant-loop-left l =
    (l.left ≤ length l.codes) × (l.after ≡ after_code (drop l.left l.codes))
    × Put l.at (octals (drop l.left l.codes)) l.initial.text l.text l.place
