-- `faults::line::go_step` meets its contract. Each branch is one case of the definition: the word, as part of the line (`part_slice`), is
-- DONE or a label, or neither. Assumes nothing.
use mathlib.Core.Path.{refl, sym, ap, ap₂, ◌∙◌}
use mathlib.Core.Bool.{◌||◌}
use Rattle.lines.specs.Words.{spelled, is_done, is_label}
use Rattle.faults.specs.Checking.{go_walk}
use Rattle.lines.proofs.Parts.{part_slice}
use Rattle.lines.proofs.Library.{same_as}
use Rattle.faults.proofs.line.go_step.Goals as goal

pub returns-then-eq-is_label : goal.returns-then-eq-is_label
unfolding go_walk is_done spelled
returns-then-eq-is_label c =
    let part = sym (part_slice c.args.at c.args.end c.args.s.now) in
    let goes = ap₂ ◌||◌ (ap is_done part ∙ same_as _ c.eq.ensures c.as_slice.ensures refl) (ap is_label part ∙ sym c.is_label.ensures)
    ∙ c.if-eq-is_label.true in
    rw goes

pub returns : goal.returns
unfolding go_walk is_done spelled
returns c =
    let part = sym (part_slice c.args.at c.args.end c.args.s.now) in
    let goes = ap₂ ◌||◌ (ap is_done part ∙ same_as _ c.eq.ensures c.as_slice.ensures refl) (ap is_label part ∙ sym c.is_label.ensures)
    ∙ c.if-eq-is_label.false in
    rw goes
