-- `typed::values::Ready::row_in` meets its contract: by the form that is found. Assumes nothing.
use Rattle.lines.specs.Forms.{form_of}
use Rattle.lines.specs.Reading.{split}
use Rattle.lines.specs.Walking.{forms_of, as_form}
use Rattle.faults.specs.Names.{label_row}
use Rattle.lines.proofs.Picking.{found_form, found_fits, found_within, row_is, none_found}
use Rattle.typed.proofs.values.Ready.row_in.Goals as goal

pub unreachable-requires : goal.unreachable-requires
unreachable-requires c = none_found _ _ _ c.requires c.in_default.ensures

pub operand-requires : goal.operand-requires
operand-requires c = (found_within _ _ c.in-Some.ensures, found_fits _ _ _ c.in-Some.ensures)

pub operand-requires-2 : goal.operand-requires-2
operand-requires-2 c = (found_within _ _ c.in-Some.ensures, found_fits _ _ _ c.in-Some.ensures)

pub operand-requires-3 : goal.operand-requires-3
operand-requires-3 c = (found_within _ _ c.in-Some.ensures, found_fits _ _ _ c.in-Some.ensures)

pub returns : goal.returns
unfolding as_form
returns c =
    row_is (label_row c.args.self.now.labels.b c.args.self.now.labels.text.now) c.args.kind c.args.next _
    (form_of c.args.self.now.labels.b (split c.args.s.now) (forms_of c.args.tests)) (split c.args.s.now) (found_form _ _ _ c.in-Some.ensures)
    c.name_in.ensures c.operand.ensures c.operand-2.ensures c.operand-3.ensures
