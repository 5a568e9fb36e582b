-- `lines::fitting::fits_operation` meets its contract: as written, or with names written out. Assumes nothing.
use mathlib.Core.Path.{sym, ap, ◌∙◌}
use mathlib.Core.List.{List}
use Prim.Native.Nat.{ℕ}
use Rattle.lines.specs.Words.{any}
use Rattle.lines.specs.Forms.{fits, operation_forms}
use Rattle.lines.specs.Walking.{expanded_by, forms_of}
use Rattle.lines.proofs.Library.{some_found}
use Rattle.lines.proofs.Moving.{any_moved}
use Rattle.lines.proofs.fitting.fits_operation.Goals as goal

pub returns-in-Some : goal.returns-in-Some
unfolding expanded_by
returns-in-Some c =
    c.is_moved.ensures ∙ sym (any_moved c.args.b _ _)
    ∙ ap (λ (ws : List (List ℕ)). any (fits c.args.b ws) operation_forms) c.in-Some.ensures

pub returns-in-None : goal.returns-in-None
unfolding expanded_by forms_of
returns-in-None c =
    c.is_some.ensures ∙ some_found _ _ _ _ c.form_of.ensures
    ∙ ap (λ (ws : List (List ℕ)). any (fits c.args.b ws) operation_forms) c.in-None.ensures
