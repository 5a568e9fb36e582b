-- `character::power` meets its contract: a shift by six is a power of 64.
-- Assumes nothing.
use mathlib.Core.Path.{sym, ◌∙◌}
use Prim.Native.Nat.{◌*◌}
use native.Mathlib.Omega.{arith}
use Rattle.character.proofs.Digits.{shifted, power_of}
use Rattle.character.proofs.power.Goals as goal

pub returns : goal.returns
returns c =
    let places = c.args.places in
    shifted (6 * places) (omega arith) ∙ sym (power_of 2 6 places)
