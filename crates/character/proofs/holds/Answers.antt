-- `character::holds` meets its contract: rounding up the rest of the width rounds up the width.
-- Assumes nothing.
use native.Mathlib.Omega.{arith}
use Rattle.character.specs.Character.{holds}
use Rattle.character.proofs.holds.Goals as goal

pub returns : goal.returns
unfolding holds
returns c = omega arith
