-- `faults::names::collect` meets its contract. The loop's invariant: the labels put by are those of the lines passed, and fewer than 800.
-- Assumes nothing.
use native.Mathlib.Omega.{arith}
use Rattle.std.proofs.lemmas.List.Sorted.{answers_always}
use Rattle.std.specs.Slice.Iter.{split_inclusive_rest}
use Rattle.faults.proofs.Texting.{First, first_line}
use Rattle.faults.proofs.Naming.{collecting_none, collecting_known, collecting_fits, collecting_more}
use borrow.Author.Rules.{rules}
use Rattle.faults.proofs.names.collect.Goals as goal

pub loop-s-init : goal.loop-s-init
loop-s-init c = (collecting_none _ _ _ (search rules), omega arith)

pub note_line-it-requires : goal.note_line-it-requires
note_line-it-requires c =
    let first = first_line c.in-Some.ensures.steps (answers_always _ _ _ (λ f a r g called. search rules)) in
    let h = c.loop-s.invariant.0 in
    let long = c.well_formed.1.0 in (
      c.requires.0,
      (
        omega (arith, h.few, first.some, first.long, long.1),
        omega (arith, c.loop-s.invariant.1, c.requires.1, h.long),
      ),
    )

pub returns-then-n-ge-MOST : goal.returns-then-n-ge-MOST
returns-then-n-ge-MOST c =
    let first = first_line c.in-Some.ensures.steps (answers_always _ _ _ (λ f a r g called. search rules)) in
    let h = collecting_more _ _ c.loop-s.invariant.0 first c.note_line-it.ensures
    (omega (arith, c.loop-s.invariant.1, c.requires.1, c.loop-s.invariant.0.long)) in
    (omega (arith, h.most, h.long), collecting_known _ _ h (λ _. c.if-n-ge-MOST.true))

pub overflow_add-before : goal.overflow_add-before
overflow_add-before c =
    let first : First (split_inclusive_rest c.loop-s.s-iterator) c.in-Some.s.now (split_inclusive_rest c.next.new.self) =
    first_line c.in-Some.ensures.steps (answers_always _ _ _ (λ f a r g called. search rules)) in
    let long = c.well_formed.1.0 in omega (arith, collecting_fits _ _ c.loop-s.invariant.0 first c.note_line-it.ensures, long.1)

pub loop-s-preserved : goal.loop-s-preserved
loop-s-preserved c =
    let first = first_line c.in-Some.ensures.steps (answers_always _ _ _ (λ f a r g called. search rules)) in (
      collecting_more _ _ c.loop-s.invariant.0 first c.note_line-it.ensures
          (omega (arith, c.loop-s.invariant.1, c.requires.1, c.loop-s.invariant.0.long)),
      omega (arith, c.if-n-ge-MOST.false),
    )

pub returns : goal.returns
returns c =
    let h = c.loop-s.invariant.0 in
    (omega (arith, h.most, h.long), collecting_known _ _ h (λ l. absurd (omega (arith, c.in-None.ensures.steps.0))))
