-- `faults::line::first_step` meets its contract. Each branch is one case of the definition: the word is a label or not, as part of the line
-- (`part_slice`). Assumes nothing.
use mathlib.Core.Path.{sym, ap, ◌∙◌}
use Rattle.word.proofs.Tests.{known_true, known_false}
use Rattle.lines.specs.Words.{is_label}
use Rattle.faults.specs.Checking.{word_walk}
use Rattle.lines.proofs.Parts.{part_slice}
use Rattle.faults.proofs.line.first_step.Goals as goal

pub returns-then-not-is_label : goal.returns-then-not-is_label
unfolding word_walk
returns-then-not-is_label c =
    let label = ap is_label (sym (part_slice c.args.at c.args.end c.args.s.now))
    ∙ known_false c.is_label.ensures c.if-not-is_label.true-raw in
    c.mode_step.ensures ∙ rw label

pub returns : goal.returns
unfolding word_walk
returns c =
    let label = ap is_label (sym (part_slice c.args.at c.args.end c.args.s.now))
    ∙ known_true c.is_label.ensures c.if-not-is_label.false-raw in
    c.mode_step-2.ensures ∙ rw label
