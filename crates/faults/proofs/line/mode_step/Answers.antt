-- `faults::line::mode_step` meets its contract: a word that is no mode word goes the other way (`mode_other`), and a mode word enters
-- (`mode_known`). Assumes nothing.
use mathlib.Core.Path.{sym, ap, ◌∙◌}
use mathlib.Core.List.{List}
use Prim.Native.Nat.{ℕ}
use Rattle.lines.specs.Words.{is_mode, mode_words}
use Rattle.lines.specs.Reading.{place_of}
use Rattle.faults.specs.Checking.{told_walk}
use Rattle.lines.proofs.Parts.{part_slice}
use Rattle.lines.proofs.Library.{placed_none, placed_some}
use Rattle.faults.proofs.Taking.{mode_other, mode_known}
use Rattle.faults.proofs.line.mode_step.Goals as goal

pub returns-in_default : goal.returns-in_default
unfolding is_mode
returns-in_default c =
    let none = placed_none _ _ c.in_default.ensures in
    ap told_walk (mode_other c.args.s.now c.args.from c.args.label c.args.at c.args.end c.args.other
    (ap is_mode (sym (part_slice c.args.at c.args.end c.args.s.now)) ∙ none))

pub returns : goal.returns
unfolding is_mode
returns c =
    let (some, place) = placed_some _ _ c.in-Some.ensures in
    c.entered.ensures ∙ ap told_walk (mode_known c.args.s.now c.args.from c.args.label c.args.at c.args.end c.args.other
    (ap is_mode (sym (part_slice c.args.at c.args.end c.args.s.now)) ∙ some)
    (place ∙ ap (λ (w : List ℕ). place_of w mode_words) (part_slice c.args.at c.args.end c.args.s.now)))
