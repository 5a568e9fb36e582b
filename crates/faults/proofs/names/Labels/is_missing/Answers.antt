-- `faults::names::Labels::is_missing` meets its contract: a label that is known is declared, and another by no line where all are put by.
-- Assumes nothing.
use native.Mathlib.Omega.{arith}
use mathlib.Core.Path.{ap, sym, ◌∙◌}
use mathlib.Core.Bool.{not}
use borrow.Author.Tests.{ltb-true}
use Rattle.word.proofs.Tests.{and_true}
use lib.Dec.{ltb}
use lib.ListN.{length}
use Rattle.faults.specs.Places.{missing}
use Rattle.faults.specs.Names.{capped}
use Rattle.faults.proofs.Using.{filled_word}
use Rattle.faults.proofs.Telling.{known_there, known_nowhere}
use Rattle.faults.proofs.names.Labels.is_missing.Goals as goal

pub returns-then-row_of-ne0 : goal.returns-then-row_of-ne0
returns-then-row_of-ne0 c =
    known_there c.args.self.now.b c.args.self.now.text.now c.args.label.now c.row_of.result c.if-row_of-ne0.true
    (ap capped c.row_of.ensures ∙ c.args.self.now.right.right c.args.label.now (λ e. c.if-row_of-ne0.true (c.row_of.ensures ∙ e)))

pub returns-then-self-label : goal.returns-then-self-label
returns-then-self-label c =
    let (few, filled) = and_true (ltb (length c.args.self.now.known.now) 800) (ltb 0 (length c.args.label.now)) c.if-self-label.true in
    known_nowhere c.args.self.now.b c.args.self.now.text.now c.args.label.now
    (c.args.self.now.right.whole (ltb-true _ _ few) c.args.label.now
    (filled_word c.args.label.now (λ e. absurd (omega (arith, ltb-true 0 (length c.args.label.now) filled))))
    (sym c.row_of.ensures ∙ c.if-row_of-ne0.false))

pub returns : goal.returns
unfolding missing
returns c = ap not c.declared.ensures
