-- `faults::names::Labels::misses_go_to` meets its contract. Each return is one case of the definition: no go-to (`goes_nowhere`), DONE
-- (`goes_done`), a label (`goes_on`). Assumes nothing.
use mathlib.Core.Path.{◌∙◌}
use Rattle.lines.specs.Words.{spelled, is_done}
use Rattle.faults.specs.Places.{missing}
use Rattle.lines.proofs.Library.{same_as}
use Rattle.faults.proofs.Using.{empty_word, filled_word, goes_nowhere, goes_done, goes_on}
use Rattle.faults.proofs.names.Labels.misses_go_to.Goals as goal

pub returns-then-w-eq0 : goal.returns-then-w-eq0
returns-then-w-eq0 c =
    goes_nowhere (missing c.args.self.now.b c.args.self.now.text.now) c.args.w.now (empty_word c.args.w.now c.if-w-eq0.true)

pub returns-then-eq : goal.returns-then-eq
unfolding is_done spelled
returns-then-eq c =
    goes_done (missing c.args.self.now.b c.args.self.now.text.now) c.args.w.now (filled_word c.args.w.now c.if-w-eq0.false)
    (same_as _ c.eq.ensures c.as_slice.ensures c.if-eq.true)

pub returns : goal.returns
unfolding is_done spelled
returns c =
    c.is_missing.ensures
    ∙ goes_on (missing c.args.self.now.b c.args.self.now.text.now) c.args.w.now (filled_word c.args.w.now c.if-w-eq0.false)
    (same_as _ c.eq.ensures c.as_slice.ensures c.if-eq.false)
