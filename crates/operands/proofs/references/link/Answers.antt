-- `operands::references::link` meets its contract: each return by the checks that led there. Assumes nothing.
use native.Mathlib.Omega.{arith}
use borrow.Author.Tests.{not-true, not-false}
use Rattle.machine.specs.Storage.{word_at}
use Rattle.operands.proofs.Links.{link_undefined, link_no_block, link_outside, link_inside}
use borrow.Author.Rules.{rules}
use Rattle.operands.proofs.references.link.Goals as goal

pub returns-then-not-x : goal.returns-then-not-x
returns-then-not-x c = link_undefined _ _ _ _ _ _ (not-true _ c.if-not-x.true)

pub returns-then-size-eq0 : goal.returns-then-size-eq0
returns-then-size-eq0 c = link_no_block _ _ _ _ _ _ (not-false _ c.if-not-x.false) c.if-size-eq0.true

pub returns-then-size-word : goal.returns-then-size-word
returns-then-size-word c = link_outside _ _ _ _ _ _ (not-false _ c.if-not-x.false) c.if-size-eq0.false c.if-size-word.true

pub overflow_add-address : goal.overflow_add-address
overflow_add-address c = let small = c.requires.1.small c.if-size-eq0.false in search rules

pub field_number-requires : goal.field_number-requires
field_number-requires c =
    let some = c.requires.1.some c.if-size-eq0.false in
    let small = c.requires.1.small c.if-size-eq0.false in
    (omega arith, omega arith, search rules, search rules)

pub word_at-requires : goal.word_at-requires
word_at-requires c =
    let low = c.requires.1.low c.if-size-eq0.false in
    let high = c.requires.1.high c.if-size-eq0.false in
    let less = c.if-size-word.false in
    (omega arith, omega arith)

pub read_field-requires : goal.read_field-requires
read_field-requires c =
    (omega (arith, c.requires.0), c.requires.1.right (not-false _ c.if-not-x.false))

pub returns : goal.returns
unfolding word_at
returns c =
    link_inside _ _ _ _ _ _ (not-false _ c.if-not-x.false) c.if-size-eq0.false c.if-size-word.false _
    c.field_number.ensures.0 c.word_at.ensures c.read_field.ensures
