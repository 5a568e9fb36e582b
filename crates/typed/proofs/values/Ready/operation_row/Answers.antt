-- `typed::values::Ready::operation_row` meets its contract: as written, or with names written out. Assumes nothing.
use mathlib.Core.Path.{◌∙◌}
use Rattle.lines.specs.Walking.{expanded_by}
use Rattle.faults.specs.Names.{label_row}
use Rattle.typed.proofs.Grouping.{plain_row, plain_fits, moved_fields, moved_is}
use Rattle.typed.proofs.values.Ready.operation_row.Goals as goal

pub moved_row-requires : goal.moved_row-requires
unfolding expanded_by
moved_row-requires c =
    moved_fields c.args.self.now.labels.b c.args.next (label_row c.args.self.now.labels.b c.args.self.now.labels.text.now) _ _ _ c.in-Some.ensures
    c.requires

pub returns-in-Some : goal.returns-in-Some
unfolding expanded_by
returns-in-Some c =
    c.moved_row.ensures
    ∙ moved_is c.args.self.now.labels.b c.args.next (label_row c.args.self.now.labels.b c.args.self.now.labels.text.now) _ _ _ c.in-Some.ensures
    c.requires

pub row_in-requires : goal.row_in-requires
unfolding expanded_by
row_in-requires c =
    plain_fits c.args.self.now.labels.b c.args.next (label_row c.args.self.now.labels.b c.args.self.now.labels.text.now) _ c.in-None.ensures c.requires

pub returns-in-None : goal.returns-in-None
unfolding expanded_by
returns-in-None c =
    c.row_in.ensures
    ∙ plain_row c.args.self.now.labels.b c.args.next (label_row c.args.self.now.labels.b c.args.self.now.labels.text.now) _ c.in-None.ensures
