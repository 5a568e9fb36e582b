-- `operations::actions::plan_set_up` meets its contract: numbers that fit are small. Assumes nothing.
use native.Mathlib.Omega.{arith}
use Rattle.word.proofs.Tests.{known_false, known_true}
use Rattle.table.specs.Row.{as_row, pair_at}
use Rattle.machine.specs.Operations.{asked}
use Rattle.machine.proofs.Checks.{need_yes, need_no}
use Rattle.operations.specs.Deeds.{meant}
use Rattle.operations.specs.Plans.{set_up_plan}
use Rattle.operations.proofs.Answers.{does, stops}
use Rattle.operations.proofs.Doing.{numbers_small}
use Rattle.operations.proofs.actions.plan_set_up.Goals as goal

pub returns-then-not-fits : goal.returns-then-not-fits
unfolding set_up_plan asked as_row pair_at
returns-then-not-fits c = stops (need_no _ _ _ (known_false c.fits.ensures c.if-not-fits.true-raw))

pub overflow_cast-setup : goal.overflow_cast-setup
overflow_cast-setup c =
    let small = numbers_small _ _ (known_true c.fits.ensures c.if-not-fits.false-raw) in
    omega (arith, small.0)

pub overflow_cast-setup-2 : goal.overflow_cast-setup-2
overflow_cast-setup-2 c =
    let small = numbers_small _ _ (known_true c.fits.ensures c.if-not-fits.false-raw) in
    omega (arith, small.1)

pub overflow_cast-setup-3 : goal.overflow_cast-setup-3
overflow_cast-setup-3 c =
    let small = numbers_small _ _ (known_true c.fits.ensures c.if-not-fits.false-raw) in
    omega (arith, small.2)

pub returns : goal.returns
unfolding set_up_plan asked as_row pair_at meant
returns c = does _ (need_yes _ _ _ (known_true c.fits.ensures c.if-not-fits.false-raw))
