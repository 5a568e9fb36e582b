-- `typed::values::Ready::labelled` meets its contract: in a text without a refusal the row known is the label's (`ready_row`), as a label is not
-- empty. Assumes nothing.
use borrow.Author.Tests.{not-true}
use mathlib.Core.Path.{ap, ◌∙◌}
use Rattle.lines.specs.Words.{literal_pair}
use Rattle.lines.proofs.Lines.{label_parts}
use Rattle.faults.proofs.Telling.{ready_row}
use Rattle.typed.proofs.values.Ready.labelled.Goals as goal

pub returns : goal.returns
returns c =
    ap literal_pair (c.row_of-value.ensures
    ∙ ready_row c.args.self.now.labels.right c.args.self.now.few c.args.w.now (not-true _ (label_parts c.args.w.now c.requires).filled))
