-- `faults::line::test_step` meets its contract. Each branch is one case of the definition: the word, as part of the line (`part_slice`), is
-- THEN or another. Assumes nothing.
use mathlib.Core.Path.{sym, ap, ◌∙◌}
use mathlib.Core.List.{List}
use Prim.Native.Nat.{ℕ}
use Rattle.lines.specs.Words.{spelled, same}
use Rattle.faults.specs.Checking.{word_walk}
use Rattle.lines.proofs.Parts.{part_slice}
use Rattle.lines.proofs.Library.{same_as}
use Rattle.faults.proofs.line.test_step.Goals as goal

pub returns-then-eq : goal.returns-then-eq
unfolding word_walk spelled
returns-then-eq c =
    let is = ap (λ (w : List ℕ). same w (spelled "THEN")) (sym (part_slice c.args.at c.args.end c.args.s.now))
    ∙ same_as _ c.eq.ensures c.as_slice.ensures c.if-eq.true in
    rw is

pub returns : goal.returns
unfolding word_walk spelled
returns c =
    let is = ap (λ (w : List ℕ). same w (spelled "THEN")) (sym (part_slice c.args.at c.args.end c.args.s.now))
    ∙ same_as _ c.eq.ensures c.as_slice.ensures c.if-eq.false in
    c.go_step.ensures ∙ rw is
