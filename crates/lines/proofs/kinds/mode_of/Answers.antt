-- `lines::kinds::mode_of` meets its contract: the words' places are those of the specs. Assumes nothing.
use mathlib.Core.Path.{refl, sym, ap, ◌∙◌}
use Rattle.std.specs.Prelude.{position}
use Rattle.std.proofs.Common.{rules, tests}
use Rattle.std.proofs.lemmas.Iterator.{YieldsList-from_slice}
use Rattle.std.proofs.lemmas.Iterator.Search.{position_from_yields_List}
use Rattle.lines.specs.Words.{spelled, same, mode_words}
use Rattle.lines.proofs.Library.{same_lem}
use Rattle.lines.proofs.kinds.mode_of.Goals as goal

pub returns-in_err-mode : goal.returns-in_err-mode
unfolding mode_words spelled
returns-in_err-mode c =
    c.from_residual.ensures ∙ sym c.in_err-mode.was
    ∙ position_from_yields_List (λ v. same c.args.w.now v.now) _ _ _ c.position.ensures.ran (YieldsList-from_slice c.iter.result.rest.now refl)
    (λ x b q k. search (rules, tests, same_lem))
    ∙ ap (position (λ v. same c.args.w.now v.now)) c.iter.ensures.rest

pub returns : goal.returns
unfolding mode_words spelled
returns c =
    sym c.in_ok-mode.was
    ∙ position_from_yields_List (λ v. same c.args.w.now v.now) _ _ _ c.position.ensures.ran (YieldsList-from_slice c.iter.result.rest.now refl)
    (λ x b q k. search (rules, tests, same_lem))
    ∙ ap (position (λ v. same c.args.w.now v.now)) c.iter.ensures.rest
