-- `lines::spots::token_at` meets its contract: each case is a law of tokens at a place. Assumes nothing.
use mathlib.Core.Path.{sym, ap, ◌∙◌}
use Rattle.lines.specs.Words.{is_name}
use Rattle.lines.specs.Walking.{told_spot}
use Rattle.lines.proofs.Scanning.{no_token, no_token_here, word_here, open_here, never_closed, within_word, within_open}
use Rattle.lines.proofs.Telling.{spot_tells}
use Rattle.lines.proofs.spots.token_at.Goals as goal

pub returns-in_err-x : goal.returns-in_err-x
returns-in_err-x c = ap told_spot c.from_residual.ensures ∙ spot_tells _ _ _ (no_token _ _ c.in_err-x.ensures.lookup.3, tt)

pub returns-then-close-text : goal.returns-then-close-text
returns-then-close-text c =
    let (inside, is) = c.in_ok-x.ensures.lookup.3 in
    spot_tells _ _ _ (
      open_here _ _ inside _ (sym (is 0) ∙ c.if-x-eq40.true) c.inside_end-close.ensures c.if-close-text.true,
      (within_open _ _ _ c.inside_end-close.ensures, c.if-close-text.true),
    )

pub returns-then-x-eq40 : goal.returns-then-x-eq40
returns-then-x-eq40 c =
    let (inside, is) = c.in_ok-x.ensures.lookup.3 in
    spot_tells _ _ _ (never_closed _ _ inside _ (sym (is 0) ∙ c.if-x-eq40.true) c.inside_end-close.ensures c.if-close-text.false, tt)

pub returns-then-is_name : goal.returns-then-is_name
returns-then-is_name c =
    let (inside, is) = c.in_ok-x.ensures.lookup.3 in
    spot_tells _ _ _ (
      word_here _ _ inside _ (λ e. c.if-x-eq40.false (is 0 ∙ e)) (ap is_name (sym (is 0)) ∙ sym c.is_name.ensures ∙ c.if-is_name.true) c.word_end.ensures,
      within_word _ _ _ inside c.word_end.ensures,
    )

pub returns : goal.returns
returns c =
    let (inside, is) = c.in_ok-x.ensures.lookup.3 in
    spot_tells _ _ _ (
      no_token_here _ _ inside (λ e. c.if-x-eq40.false (is 0 ∙ e)) (ap is_name (sym (is 0)) ∙ sym c.is_name.ensures ∙ c.if-is_name.false),
      tt,
    )
