-- `operations::actions::define` meets its contract: numbers out of range stop it (`need_no`), and those in range do what is asked
-- (`need_yes`) and fit a byte each (`in_range_lem`). Assumes nothing.
use native.Mathlib.Omega.{arith}
use borrow.Author.Tests.{not-true, not-false}
use Rattle.machine.specs.Sound.{in_range}
use Rattle.machine.proofs.Checks.{need_yes, need_no}
use Rattle.operations.specs.Deeds.{meant}
use Rattle.operations.specs.Plans.{defining}
use Rattle.operations.proofs.Answers.{does, stops}
use Rattle.operations.proofs.Doing.{in_range_lem}
use Rattle.operations.proofs.actions.define.Goals as goal

pub returns-then-not-known : goal.returns-then-not-known
unfolding defining in_range
returns-then-not-known c = stops (need_no _ _ _ (not-true _ c.if-not-known.true-raw))

pub overflow_cast-definition : goal.overflow_cast-definition
overflow_cast-definition c =
    let fits = in_range_lem c.args.b c.args.word c.args.left c.args.right (not-false _ c.if-not-known.false-raw) in
    omega (arith, fits.0)

pub overflow_cast-definition-2 : goal.overflow_cast-definition-2
overflow_cast-definition-2 c =
    let fits = in_range_lem c.args.b c.args.word c.args.left c.args.right (not-false _ c.if-not-known.false-raw) in
    omega (arith, fits.1, c.requires.0)

pub overflow_cast-definition-3 : goal.overflow_cast-definition-3
overflow_cast-definition-3 c =
    let fits = in_range_lem c.args.b c.args.word c.args.left c.args.right (not-false _ c.if-not-known.false-raw) in
    omega (arith, fits.2, c.requires.0)

pub returns : goal.returns
unfolding defining in_range meant
returns c = does _ (need_yes _ _ _ (not-false _ c.if-not-known.false-raw))
