-- `faults::seeking::seek` meets its contract. The loop's invariant: the labels put first are declared by lines, and more are sought.
-- Assumes nothing.
use native.Mathlib.Omega.{arith}
use mathlib.Core.Path.{refl}
use Rattle.std.proofs.lemmas.List.Sorted.{answers_always}
use Rattle.faults.proofs.Texting.{first_line}
use Rattle.faults.proofs.Finding.{sifting_none, sifting_more}
use borrow.Author.Rules.{rules}
use Rattle.faults.proofs.seeking.seek.Goals as goal

pub returns-then-n-eq0 : goal.returns-then-n-eq0
returns-then-n-eq0 c = (omega arith, (refl, λ w is j l e. absurd (omega arith)))

pub loop-s-init : goal.loop-s-init
loop-s-init c = (sifting_none _ _ _ _ (search rules), omega arith)

pub seek_line-m-requires : goal.seek_line-m-requires
seek_line-m-requires c =
    (c.requires.0, (omega (arith, c.loop-s.invariant.1), omega (arith, c.loop-s.invariant.0.size, c.requires.1)))

pub returns-then-n-m : goal.returns-then-n-m
returns-then-n-m c =
    let h =
    sifting_more _ _ c.loop-s.invariant.0 (first_line c.in-Some.ensures.steps (answers_always _ _ _ (λ f a r g called. search rules)))
    c.loop-s.invariant.1 c.seek_line-m.ensures.0 c.seek_line-m.ensures.1 in
    (omega (arith, c.requires.1, h.few, h.size), (h.size, h.found))

pub loop-s-preserved : goal.loop-s-preserved
loop-s-preserved c = (
  sifting_more _ _ c.loop-s.invariant.0 (first_line c.in-Some.ensures.steps (answers_always _ _ _ (λ f a r g called. search rules)))
      c.loop-s.invariant.1 c.seek_line-m.ensures.0 c.seek_line-m.ensures.1,
  omega (arith, c.if-n-m.false),
)

pub returns : goal.returns
returns c =
    let h = c.loop-s.invariant.0 in (omega (arith, c.requires.1, h.few, h.size), (h.size, h.found))
