-- The ten starred bench cases, as one table under one theorem, and the worked example of tourrun. The checker computes each.
-- Assumes nothing.
use mathlib.Core.Bool.{true}
use mathlib.Core.List.{[], ◌∷◌}
use mathlib.Core.Path.{◌≡◌, refl}
use lib.ListN.{take}
use Rattle.machine.specs.declared.Answer.TheVariants.{Finished}
use Rattle.machine.specs.Sound.{every}
use Rattle.machine.specs.Bench.{cases, passes, tour, tour_run}
use Rattle.machine.proofs.Computing.{computing}

-- every starred bench case gives what document 01 says
pub bench : every passes cases ≡ true
unfolding computing
bench = refl

-- on the worked example's table the run writes 00 07, and finishes with count 4
pub tour_finishes : ((tour_run tour []).ran.answer ≡ Finished)
    × ((tour_run tour []).ran.count ≡ 4)
    × (take (tour_run tour []).ran.state.core.written (tour_run tour []).output ≡ 0 ∷ 7 ∷ [])
unfolding computing
tour_finishes = (refl, refl, refl)
