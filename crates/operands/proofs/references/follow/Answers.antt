-- `operands::references::follow` meets its contract: one field at once, or the fields one after the other. The loop's invariant: whatever the set-up,
-- what the first links leave to follow leads where the whole reference does, from a spot that can be read. The measure is what is left.
-- Assumes nothing.
use native.Mathlib.Omega.{arith}
use mathlib.Core.Path.{refl, ◌∙◌}
use Rattle.operands.proofs.Follows.{followed_first, followed_all, followed_last, followed_next, followed_stopped, name_left}
use Rattle.operands.proofs.Follows.{one_field, one_name, link_seen, lying_seen}
use Rattle.operands.proofs.Unpacking.{unpacked_at}
use Rattle.operands.proofs.references.follow.Goals as goal

pub bug_before-bug-requires : goal.bug_before-bug-requires
bug_before-bug-requires c = (c.requires.1, one_field _ c.requires.2 c.if-value-lt-TWO_DIGITS.true)

pub name_before-j-requires : goal.name_before-j-requires
name_before-j-requires c = (c.requires.1, one_name _ c.requires.2 c.if-value-lt-TWO_DIGITS.true)

pub bounds-bugs-i : goal.bounds-bugs-i
bounds-bugs-i c = c.bug_before-bug.ensures.1

pub bounds-fields-j : goal.bounds-fields-j
bounds-fields-j c = c.name_before-j.ensures.1

pub bounds-bugs-i-then-value-lt-TWO_DIGITS : goal.bounds-bugs-i-then-value-lt-TWO_DIGITS
bounds-bugs-i-then-value-lt-TWO_DIGITS c = c.bug_before-bug.ensures.1

pub link-requires : goal.link-requires
link-requires c =
    let (_, _, h) = c.requires.0 in
    (h.width, lying_seen _ _ h _ (c.unpack.ensures ∙ unpacked_at _ _) _ c.size_at-size.ensures)

pub returns-then-value-lt-TWO_DIGITS : goal.returns-then-value-lt-TWO_DIGITS
returns-then-value-lt-TWO_DIGITS c =
    λ d s2 h. followed_last _ _ _ (followed_first _ _ _ c.requires.1 (one_field _ c.requires.2 c.if-value-lt-TWO_DIGITS.true)
    c.bug_before-bug.ensures) (omega arith) c.name_before-j.ensures.0 refl (link_seen _ _ h _
    (c.unpack.ensures ∙ unpacked_at _ _) _ c.size_at-size.ensures c.link.ensures)

pub bits_after-left-requires : goal.bits_after-left-requires
bits_after-left-requires c = c.requires.1

pub bug_before-bug-requires-2 : goal.bug_before-bug-requires-2
bug_before-bug-requires-2 c = (c.requires.1, c.bits_after-left.ensures)

pub bounds-bugs-i-2 : goal.bounds-bugs-i-2
bounds-bugs-i-2 c = c.bug_before-bug-2.ensures.1

pub loop-left-init : goal.loop-left-init
loop-left-init c =
    λ d s2 h. followed_first _ _ _ c.requires.1 c.bits_after-left.ensures c.bug_before-bug-2.ensures

pub overflow_sub-left : goal.overflow_sub-left
overflow_sub-left c =
    let (d, s2, h) = c.requires.0 in
    omega (arith, (c.loop-left.invariant d s2 h).whole)

pub name_before-name-requires : goal.name_before-name-requires
name_before-name-requires c =
    let (d, s2, h) = c.requires.0 in
    (c.requires.1, name_left _ _ _ (c.loop-left.invariant d s2 h) (omega arith))

pub bounds-fields-j-in-loop-left : goal.bounds-fields-j-in-loop-left
bounds-fields-j-in-loop-left c = c.name_before-name.ensures.1

pub link-answer-requires : goal.link-answer-requires
link-answer-requires c =
    let (_, _, h) = c.requires.0 in
    (h.width, lying_seen _ _ h _ (c.unpack-in-loop-left.ensures ∙ unpacked_at _ _) _ c.size_at-size-in-loop-left.ensures)

pub returns-in_default : goal.returns-in_default
returns-in_default c =
    λ d s2 h. followed_stopped _ _ _ (c.loop-left.invariant d s2 h) (omega arith) c.name_before-name.ensures.0
    (link_seen _ _ h _ (c.unpack-in-loop-left.ensures ∙ unpacked_at _ _) _ c.size_at-size-in-loop-left.ensures
    c.link-answer.ensures) c.in_default.is

pub loop-left-smaller : goal.loop-left-smaller
loop-left-smaller c =
    let (d, s2, h) =
    c.requires.0 in
    omega (arith, (c.loop-left.invariant d s2 h).whole)

pub loop-left-preserved : goal.loop-left-preserved
loop-left-preserved c =
    λ d s2 h. followed_next _ _ _ (c.loop-left.invariant d s2 h) (omega arith) c.name_before-name.ensures.0
    (link_seen _ _ h _ (c.unpack-in-loop-left.ensures ∙ unpacked_at _ _) _ c.size_at-size-in-loop-left.ensures
    c.link-answer.ensures) h c.in-Ok.is

pub returns : goal.returns
returns c = λ d s2 h. followed_all _ _ _ (c.loop-left.invariant d s2 h) (omega arith)
