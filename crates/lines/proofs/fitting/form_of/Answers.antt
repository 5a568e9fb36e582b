-- `lines::fitting::form_of` meets its contract: the first form of the table that fits. Assumes nothing.
use mathlib.Core.Path.{refl, sym, ap, ◌∙◌}
use Rattle.std.specs.Prelude.{option_map, find}
use Rattle.std.proofs.Common.{rules, tests}
use Rattle.std.proofs.lemmas.Iterator.{YieldsList-from_slice}
use Rattle.std.proofs.lemmas.Iterator.Search.{find_from_yields_List}
use Rattle.lines.specs.Forms.{fits}
use Rattle.lines.specs.Reading.{split}
use Rattle.lines.specs.Walking.{as_form}
use Rattle.lines.proofs.Library.{find_map, map_then, second_or}
use Rattle.lines.proofs.fitting.form_of.Goals as goal

pub returns : goal.returns
returns c =
    let second = second_or (split c.args.s.now) c.argument_at.result _ c.argument_at.ensures refl ∙ ap (λ w. w.now) (sym c.unwrap_or-second.ensures) in
    map_then (λ f. f.now) as_form c.find.result
    ∙ ap (option_map as_form) (find_from_yields_List (λ f. fits c.args.b (split c.args.s.now) (as_form f)) _ _ c.find.result c.find.ensures.ran
    (YieldsList-from_slice c.forms_of.result.now cc) (λ x b q k. search (rules, tests, second)))
    ∙ find_map as_form (fits c.args.b (split c.args.s.now)) c.forms_of.result.now
    ∙ ap (find (fits c.args.b (split c.args.s.now))) c.forms_of.ensures
