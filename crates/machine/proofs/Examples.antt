-- The worked examples that document 01 gives no star: the checker computes each. Assumes nothing.
use mathlib.Core.Bool.{true}
use mathlib.Core.Path.{◌≡◌, refl}
use Rattle.machine.specs.Sound.{every}
use Rattle.machine.specs.Bench.{passes}
use Rattle.machine.specs.Examples.{slips, refusals, refusing, refusing_from, refuses_so}
use Rattle.machine.proofs.Computing.{computing}

-- none of the slips
pub no_slips : every passes slips ≡ true
unfolding computing slips
no_slips = refl

-- each refusal has document 01's number, or its ticket's
pub refused_so : every refuses_so refusals ≡ true
unfolding computing refusals refusing refusing_from refuses_so
refused_so = refl
