-- `buddy::extension::extends` meets its contract: each return by the tests made before it. Assumes nothing.
use Rattle.std.proofs.Common.{◌+◌, ◌-◌, arith}
use borrow.Author.Tests.{not-true, not-false}
use Rattle.buddy.proofs.Added.{not_later, later_order, later_judged}
use Rattle.buddy.proofs.extension.extends.Goals as goal

pub returns-then-not-later : goal.returns-then-not-later
returns-then-not-later c = not_later _ _ c.args.setup (not-true _ c.if-not-later.true-raw)

pub overflow_sub-words : goal.overflow_sub-words
overflow_sub-words c =
    let (later, small) = later_order c.args.lent c.args.last c.args.setup (not-false _ c.if-not-later.false-raw) in
    omega (arith, c.requires.1)

pub overflow_add-words : goal.overflow_add-words
overflow_add-words c =
    let (later, small) = later_order c.args.lent c.args.last c.args.setup (not-false _ c.if-not-later.false-raw) in
    record { fits = omega arith }

pub overflow_sub-result : goal.overflow_sub-result
overflow_sub-result c =
    let (later, small) = later_order c.args.lent c.args.last c.args.setup (not-false _ c.if-not-later.false-raw) in
    omega arith

pub returns : goal.returns
returns c =
    let (later, small) = later_order c.args.lent c.args.last c.args.setup (not-false _ c.if-not-later.false-raw) in
    later_judged c.args.lent c.args.last c.args.setup c.requires.0 (not-false _ c.if-not-later.false-raw)
    (c.args.last - c.args.setup.s1 + 1) (omega (arith, c.requires.1))
