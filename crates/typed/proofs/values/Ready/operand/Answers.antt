-- `typed::values::Ready::operand` meets its contract: by the form's operands. Assumes nothing.
use mathlib.Core.Path.{sym, ap₂, ◌∙◌}
use mathlib.Core.List.{[]}
use Rattle.lines.specs.Words.{is_kind, itself, pair_of}
use Rattle.lines.specs.Walking.{as_form}
use Rattle.faults.specs.Names.{label_row}
use Rattle.lines.specs.Reading.{split}
use Rattle.lines.proofs.Picking.{no_pair, in_form, in_arguments, kind_fits, pair_here, kind_there, kind_inside, get_none, get_some}
use Rattle.typed.proofs.values.Ready.operand.Goals as goal

pub returns-in_default : goal.returns-in_default
unfolding as_form
returns-in_default c =
    no_pair c.args.self.now.labels.b (as_form c.args.form.now) (split c.args.s.now) c.args.k
    (label_row c.args.self.now.labels.b c.args.self.now.labels.text.now) c.in_default.ensures.lookup.3

pub unreachable-requires : goal.unreachable-requires
unfolding as_form
unreachable-requires c =
    let (low, at) = c.in-Some.ensures.lookup.3 in
    kind_inside c.args.form.now.arguments.now c.in-Some.i.now
    (in_form c.args.self.now.labels.b (as_form c.args.form.now) (split c.args.s.now) c.args.k low (at 0) c.requires.0)
    c.in_default-get.ensures.lookup.3

pub unreachable-requires-in_default-argument_at : goal.unreachable-requires-in_default-argument_at
unfolding as_form
unreachable-requires-in_default-argument_at c =
    let (low, at) = c.in-Some.ensures.lookup.3 in
    get_none (split c.args.s.now) c.in-Some.i.now
    (in_arguments c.args.self.now.labels.b (as_form c.args.form.now) (split c.args.s.now) c.args.k low (at 0) c.requires.0 c.requires.1)
    c.in_default-argument_at.ensures

pub pair_of-requires : goal.pair_of-requires
unfolding as_form
pair_of-requires c =
    let (low, at) = c.in-Some.ensures.lookup.3 in
    let (inside, is) = c.in-Some-get.ensures.lookup.3 in
    sym (ap₂ (is_kind c.args.self.now.labels.b) (kind_there c.args.form.now.arguments.now c.in-Some.i.now (itself []) inside is)
    (get_some (split c.args.s.now) c.in-Some.i.now c.in-Some-argument_at.ensures))
    ∙ kind_fits c.args.self.now.labels.b (as_form c.args.form.now) (split c.args.s.now) c.args.k low (at 0) c.requires.0 c.requires.1

pub returns : goal.returns
unfolding as_form
returns c =
    let (low, at) = c.in-Some.ensures.lookup.3 in
    let (inside, is) = c.in-Some-get.ensures.lookup.3 in
    let row_of = label_row c.args.self.now.labels.b c.args.self.now.labels.text.now in
    c.pair_of.ensures
    ∙ sym (ap₂ (pair_of row_of) (kind_there c.args.form.now.arguments.now c.in-Some.i.now (itself []) inside is)
    (get_some (split c.args.s.now) c.in-Some.i.now c.in-Some-argument_at.ensures))
    ∙ pair_here c.args.self.now.labels.b (as_form c.args.form.now) (split c.args.s.now) c.args.k low (at 0) row_of
