-- `lines::kinds::is_field` meets its contract: its tests joined are the definition. Assumes nothing.
use mathlib.Core.Path.{refl, sym, ap, ◌∙◌}
use Rattle.lines.specs.Words.{is_field, is_letter}
use Rattle.lines.proofs.Scanning.{starts_first}
use Rattle.lines.proofs.kinds.is_field.Goals as goal

pub returns : goal.returns
unfolding is_field is_letter
returns c =
    let starts = c.is_letter.ensures ∙ ap is_letter c.first.ensures ∙ sym (starts_first is_letter c.args.w.now refl) in
    rw (starts, c.all_names.ensures)
