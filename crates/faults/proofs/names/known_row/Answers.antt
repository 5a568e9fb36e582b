-- `faults::names::known_row` meets its contract. Each branch is one case of the definition: a label, whose row is beside its key, or
-- another word. Assumes nothing.
use Rattle.word.proofs.Tests.{known_true, known_false}
use mathlib.Core.Path.{ap, ◌∙◌}
use Rattle.faults.specs.Names.{beside, known_row}
use Rattle.faults.proofs.names.known_row.Goals as goal

pub returns-then-not-is_label : goal.returns-then-not-is_label
unfolding known_row
returns-then-not-is_label c = rw (known_false c.is_label.ensures c.if-not-is_label.true-raw)

pub returns : goal.returns
unfolding known_row
returns c =
    rw (known_true c.is_label.ensures c.if-not-is_label.false-raw)
    (c.row_beside.ensures ∙ ap (beside c.args.known.now) c.key_of.ensures)
