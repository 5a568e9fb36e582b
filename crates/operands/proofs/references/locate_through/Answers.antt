-- `operands::references::locate_through` meets its contract. The loop's invariant: what the first links leave to follow leads where the
-- whole reference does, from a spot that can be read, once the block is delivered. The measure is what is left. Assumes nothing.
use native.Mathlib.Omega.{arith}
use mathlib.Core.Path.{sym, ap, ◌∙◌}
use Rattle.operands.specs.Reading.{told_linked}
use Rattle.operands.specs.Through.{through, delivered}
use Rattle.operands.proofs.Answers.{at_is, stopped_is}
use Rattle.operands.proofs.Follows.{followed_first, followed_all, name_left, followed_at, followed_refused}
use Rattle.operands.proofs.Follows.{link_reached}
use Rattle.operands.proofs.Through.{delivery_low, delivery_lies, through_readable, through_reached, through_contents}
use Rattle.operands.proofs.Through.{through_lying, through_link}
use Rattle.operands.proofs.Unpacking.{unpacked_at}
use Rattle.operands.proofs.references.locate_through.Goals as goal

pub bits_after-bits-requires : goal.bits_after-bits-requires
bits_after-bits-requires c = c.requires.2

pub bug_before-bug-requires : goal.bug_before-bug-requires
bug_before-bug-requires c = (c.requires.2, c.bits_after-bits.ensures)

pub bounds-bugs-i : goal.bounds-bugs-i
bounds-bugs-i c = c.bug_before-bug.ensures.1

pub loop-bits-init : goal.loop-bits-init
unfolding through
loop-bits-init c =
    followed_first _ _ _ c.requires.2 c.bits_after-bits.ensures c.bug_before-bug.ensures

pub overflow_sub-bits : goal.overflow_sub-bits
overflow_sub-bits c = omega (arith, c.loop-bits.invariant.whole)

pub name_before-name-requires : goal.name_before-name-requires
name_before-name-requires c = (c.requires.2, name_left _ _ _ c.loop-bits.invariant c.loop-bits-test.true)

pub size_after-size-requires : goal.size_after-size-requires
size_after-size-requires c =
    (c.requires.0.whole, c.requires.0.kept)

pub bounds-fields-j : goal.bounds-fields-j
bounds-fields-j c = c.name_before-name.ensures.1

pub link-answer-requires : goal.link-answer-requires
link-answer-requires c = (
  c.requires.0.width,
  through_lying _ _ c.requires.0 (delivered c.args.ahead) c.requires.1 _
      c.size_after-size.ensures _ (c.unpack.ensures ∙ unpacked_at _ _),
)

pub returns-in_default : goal.returns-in_default
unfolding told_linked
returns-in_default c =
    ap told_linked c.in_default.is ∙ followed_refused _ _ _ c.loop-bits.invariant c.loop-bits-test.true
    c.name_before-name.ensures.0 (sym (through_link _ _ c.requires.0 (delivered c.args.ahead)
    c.requires.1 _ c.size_after-size.ensures _ (c.unpack.ensures ∙ unpacked_at _ _)) ∙
    stopped_is _ _ c.link-answer.ensures c.in_default.is)

pub contents_after-requires : goal.contents_after-requires
unfolding through
contents_after-requires c =
    let ahead = delivered c.args.ahead in (
      c.requires.0.width,
      delivery_low _ _ c.requires.0 _ _ _ c.requires.1,
      delivery_lies _ _ c.requires.0 _ _ _ c.requires.1,
      c.requires.1.reached,
      through_reached _ _ c.requires.0 ahead c.requires.1 _ (link_reached _ _
          (through_readable _ _ c.requires.0 ahead c.requires.1) _ _ _ (sym (through_link _ _ c.requires.0 ahead
          c.requires.1 _ c.size_after-size.ensures _ (c.unpack.ensures ∙ unpacked_at _ _)) ∙
          at_is _ _ c.link-answer.ensures c.in-Ok.is)),
    )

pub loop-bits-smaller : goal.loop-bits-smaller
loop-bits-smaller c = omega (arith, c.loop-bits.invariant.whole)

pub loop-bits-preserved : goal.loop-bits-preserved
loop-bits-preserved c =
    let ahead = delivered c.args.ahead in
    followed_at _ _ _ c.loop-bits.invariant c.loop-bits-test.true c.name_before-name.ensures.0
    (through_readable _ _ c.requires.0 ahead c.requires.1) _ (sym (through_link _ _ c.requires.0 ahead
    c.requires.1 _ c.size_after-size.ensures _ (c.unpack.ensures ∙ unpacked_at _ _)) ∙ at_is _
    _ c.link-answer.ensures c.in-Ok.is)
    (through_contents _ _ c.requires.0 ahead c.requires.1 _ c.contents_after.ensures)

pub returns : goal.returns
returns c = followed_all _ _ _ c.loop-bits.invariant (omega arith)
