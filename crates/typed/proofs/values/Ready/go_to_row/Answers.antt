-- `typed::values::Ready::go_to_row` meets its contract. Each return is one case of the definition: no go-to, DONE, or a label, whose row is known
-- (`ready_row`). Assumes nothing.
use mathlib.Core.Path.{◌∙◌}
use Rattle.lines.specs.Words.{spelled, is_done}
use Rattle.faults.specs.Names.{label_row}
use Rattle.faults.proofs.Using.{empty_word, filled_word}
use Rattle.faults.proofs.Telling.{ready_row}
use Rattle.lines.proofs.Library.{same_as}
use Rattle.typed.proofs.Grouping.{goes_nowhere, goes_done, goes_to}
use Rattle.typed.proofs.values.Ready.go_to_row.Goals as goal

pub returns-then-w-eq0 : goal.returns-then-w-eq0
returns-then-w-eq0 c =
    goes_nowhere _ (label_row c.args.self.now.labels.b c.args.self.now.labels.text.now) _ (empty_word c.args.w.now c.if-w-eq0.true)

pub returns-then-eq : goal.returns-then-eq
unfolding is_done spelled
returns-then-eq c =
    goes_done _ (label_row c.args.self.now.labels.b c.args.self.now.labels.text.now) _ (filled_word c.args.w.now c.if-w-eq0.false)
    (same_as _ c.eq.ensures c.as_slice.ensures c.if-eq.true)

pub returns : goal.returns
unfolding is_done spelled
returns c =
    c.row_of.ensures
    ∙ ready_row c.args.self.now.labels.right c.args.self.now.few c.args.w.now (filled_word c.args.w.now c.if-w-eq0.false)
    ∙ goes_to _ (label_row c.args.self.now.labels.b c.args.self.now.labels.text.now) _ (filled_word c.args.w.now c.if-w-eq0.false)
    (same_as _ c.eq.ensures c.as_slice.ensures c.if-eq.false)
