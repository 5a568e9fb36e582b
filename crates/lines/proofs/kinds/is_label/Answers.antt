-- `lines::kinds::is_label` meets its contract: its tests joined are the definition. Assumes nothing.
use mathlib.Core.Bool.{not}
use mathlib.Core.Path.{ap, ◌∙◌}
use Rattle.std.specs.Prelude.{is_some}
use Rattle.lines.specs.Words.{spelled, same, is_label, is_done, is_mode, mode_words}
use Rattle.lines.proofs.Library.{no_bytes, none_is, any_placed, same_lem}
use Rattle.lines.proofs.kinds.is_label.Goals as goal

pub returns : goal.returns
unfolding is_label is_mode is_done spelled
returns c =
    let mode = none_is _ _ c.is_none.ensures ∙ ap (λ o. not (is_some o)) c.mode_of.ensures ∙ ap not (any_placed (same c.args.w.now) mode_words) in
    rw (c.is_empty.ensures, no_bytes, mode, c.ne.ensures, c.as_slice.ensures, same_lem, c.all_names.ensures)
