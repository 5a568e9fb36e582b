-- `plans::tests::compared` meets its contract: each arm by its code. Assumes nothing.
use native.Mathlib.Omega.{arith}
use mathlib.Core.Path.{◌≡◌, refl, ap}
use lib.Dec.{eqb}
use Rattle.machine.specs.Test.{comparisons, compared}
use Rattle.plans.proofs.Testing.{compared_at}
use Rattle.plans.proofs.tests.compared.Goals as goal

pub returns-in-1 : goal.returns-in-1
unfolding compared comparisons
returns-in-1 c = compared_at _ _ _ c.in-1.is refl

pub returns-in-2 : goal.returns-in-2
unfolding compared comparisons
returns-in-2 c = compared_at _ _ _ c.in-2.is refl

pub returns-in-3 : goal.returns-in-3
unfolding compared comparisons
returns-in-3 c = compared_at _ _ _ c.in-3.is refl

pub returns-in-4 : goal.returns-in-4
unfolding compared comparisons
returns-in-4 c = compared_at _ _ _ c.in-4.is refl

pub returns-in-5 : goal.returns-in-5
unfolding compared comparisons
returns-in-5 c = compared_at _ _ _ c.in-5.is refl

pub returns-in-6 : goal.returns-in-6
unfolding compared comparisons
returns-in-6 c = compared_at _ _ _ c.in-6.is (ap (λ n. eqb n c.args.cd) c.and.ensures)

pub returns-in_default : goal.returns-in_default
unfolding compared comparisons
returns-in_default c =
    let last : c.args.code ≡ 7 = omega (arith, c.requires.1, c.requires.2, c.in_default.in_default-own.rest) in
    compared_at _ _ _ last (ap (λ n. eqb n 0) c.and-in_default.ensures)
