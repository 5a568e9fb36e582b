-- `recordings::nexts_inside` meets its contract. The loop's invariant: whether every row's next index lies inside is whether that of the rows below
-- does. Assumes nothing.
use mathlib.Core.Path.{refl, sym, ◌∙◌}
use native.Mathlib.Omega.{arith}
use native.Mathlib.Nat.{div-mul-le_self}
use lib.ListN.{length}
use Rattle.recordings.proofs.Loops.{next_outside, next_passed, nexts_none}
use Rattle.recordings.proofs.nexts_inside.Goals as goal

pub loop-row-init : goal.loop-row-init
loop-row-init c = (omega arith, refl)

pub number_of-requires : goal.number_of-requires
number_of-requires c = omega (arith, div-mul-le_self (length c.args.list.now) 4)

pub returns-then-rows-number_of : goal.returns-then-rows-number_of
returns-then-rows-number_of c =
    sym (next_outside _ _ _ c.loop-row-test.true c.number_of.ensures c.if-rows-number_of.true) ∙ c.loop-row.invariant.1

pub loop-row-preserved : goal.loop-row-preserved
loop-row-preserved c =
    (omega arith, next_passed _ _ _ c.loop-row-test.true c.number_of.ensures c.if-rows-number_of.false ∙ c.loop-row.invariant.1)

pub returns : goal.returns
returns c = sym (nexts_none _ _ (omega arith)) ∙ c.loop-row.invariant.1
