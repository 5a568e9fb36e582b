-- `recordings::places::chain_of` meets its contract. Each branch is one case of the definition: heads apart, or in the pairs; a remainder
-- is below its divisor. Assumes nothing.
use mathlib.Core.Path.{refl}
use native.Mathlib.Nat.{mod-lt}
use native.Mathlib.Omega.{arith}
use borrow.Author.Tests.{eq-eqb, ne_eqb}
use Rattle.recordings.proofs.places.chain_of.Goals as goal

pub returns-then-size-eq0 : goal.returns-then-size-eq0
returns-then-size-eq0 c =
    rw (eq-eqb c.args.size 0 c.if-size-eq0.true) (refl, mod-lt c.args.stop c.requires)

pub returns : goal.returns
returns c =
    rw (ne_eqb c.args.size 0 c.if-size-eq0.false) (refl, mod-lt c.args.stop (omega (arith, c.if-size-eq0.false)))
