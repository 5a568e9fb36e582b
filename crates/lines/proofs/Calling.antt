-- The labels that operations call: only DO, with two arguments, has one. Assumes nothing.
use Prim.Native.Nat.{ℕ, suc}
use mathlib.Core.Path.{◌≡◌, refl, ap, sym, ◌∙◌}
use mathlib.Core.Bool.{Bool, true, false, not, ◌&&◌, ◌||◌, cond}
use mathlib.Core.List.{List, [], ◌∷◌}
use borrow.Author.Tests.{eq-eqb, ne_eqb, not-true}
use lib.Dec.{eqb}
use lib.ListN.{length}
use Rattle.word.proofs.Tests.{by_test, and_true}
use Rattle.lines.specs.Words.{spelled, same, all, any, Kind, itself, symbol, is_kind, is_symbol, is_label, is_field}
use Rattle.lines.specs.Forms.{Form, operation_forms, expanded, are_kinds, fits, form_of, is_argument, is_operation}
use Rattle.lines.specs.Forms.{symbols_in}
use Rattle.lines.specs.Walking.{calls_in}
use Rattle.lines.proofs.Lists.{true_false, all_first, all_others}
use Rattle.lines.proofs.Literals.{and_right}
use Rattle.lines.proofs.Moving.{keep, kept, any_kept, point_form, pointing, none_other, only_pointing}

-- kinds without a label
abbrev free : List Kind → Bool
free ks = all (λ (k : Kind). not (is_symbol k)) ks

symbols_free : (ks : List Kind) (args : List (List ℕ)) → free ks ≡ true → symbols_in ks args ≡ []
unfolding symbols_in
symbols_free [] args e = refl
symbols_free (k ∷ ks) [] e = refl
symbols_free (k ∷ ks) (w ∷ ws) e =
    rw (not-true (is_symbol k) (all_first (λ (j : Kind). not (is_symbol j)) k ks e)) (symbols_free ks ws (all_others (λ (j : Kind). not (is_symbol j)) k ks e))

module _ (b : ℕ) where
  pub as_many : (ks : List Kind) (args : List (List ℕ)) → are_kinds b ks args ≡ true → length ks ≡ length args
  unfolding are_kinds
  as_many [] [] e = refl
  as_many [] (w ∷ ws) e = absurd (true_false e refl)
  as_many (k ∷ ks) [] e = absurd (true_false e refl)
  as_many (k ∷ ks) (w ∷ ws) e = ap suc (as_many ks ws (and_true (is_kind b k w) (are_kinds b ks ws) e).1)

  abbrev is_two : Form → Bool
  is_two f = eqb (length f.arguments) 2

  form_free : (args : List (List ℕ)) (fs : List Form) → (length args ≡ 2 → ⊥) → all (λ (f : Form). is_two f || free f.arguments) fs ≡ true
      → symbols_in (form_of b args fs).arguments args ≡ []
  unfolding form_of fits symbols_in
  form_free args [] h e = refl
  form_free args (f ∷ fs) h e =
      by_test (λ t. are_kinds b f.arguments args ≡ t → symbols_in (cond t f (form_of b args fs)).arguments args ≡ []) (are_kinds b f.arguments args)
      (λ _ is. symbols_free f.arguments args (first is)) (λ _ _. form_free args fs h (all_others (λ (g : Form). is_two g || free g.arguments) f fs e)) refl
    where
      first : are_kinds b f.arguments args ≡ true → free f.arguments ≡ true
      first is =
          let many = as_many f.arguments args is in
          rw (ne_eqb (length f.arguments) 2 (λ (z : length f.arguments ≡ 2). h (sym many ∙ z))) at
          (all_first (λ (g : Form). is_two g || free g.arguments) f fs e)

  no_labels : all (λ (f : Form). is_two f || free f.arguments) operation_forms ≡ true
  unfolding all operation_forms is_symbol
  no_labels = refl

  pub calls_none : (x : List (List ℕ)) → (length (expanded x) ≡ 2 → ⊥) → [] ≡ calls_in b x
  unfolding calls_in
  calls_none x h = sym (form_free (expanded x) operation_forms h no_labels)

  -- DO is the only form of two arguments
  other_length : (args : List (List ℕ)) → length args ≡ 2 → (f : Form) → is_two f ≡ false → fits b args f ≡ false
  unfolding fits
  other_length args two f e =
      by_test (λ t. are_kinds b f.arguments args ≡ t → t ≡ false) (are_kinds b f.arguments args)
      (λ _ is. absurd (true_false (eq-eqb (length f.arguments) 2 (as_many f.arguments args is ∙ two)) e)) (λ _ _. refl) refl

  form_kept : (args : List (List ℕ)) (q : Form → Bool) → ((f : Form) → q f ≡ false → fits b args f ≡ false) → (fs : List Form)
      → form_of b args fs ≡ form_of b args (kept q fs)
  unfolding form_of keep kept
  form_kept args q h [] = refl
  form_kept args q h (f ∷ fs) =
      by_test (λ t. q f ≡ t → cond (fits b args f) f (form_of b args fs) ≡ form_of b args (keep t f (kept q fs))) (q f)
      (λ _ _. ap (cond (fits b args f) f) (form_kept args q h fs)) (λ _ e. rw (h f e) (form_kept args q h fs)) refl

  -- (a, P, aΔ) fits only the form of its mnemonic
  pub moved_form : (x z : List ℕ) → (is_field x && is_field z) ≡ true → form_of b (x ∷ spelled "P" ∷ z ∷ []) operation_forms ≡ point_form
  unfolding form_of fits are_kinds is_kind same spelled
  moved_form x z e =
      let (first, second) = and_true (is_field x) (is_field z) e in
      form_kept (x ∷ spelled "P" ∷ z ∷ []) (λ (f : Form). pointing b f.arguments) (λ f h. none_other b x z f.arguments h) operation_forms
      ∙ rw (only_pointing b x z, first, second)

  abbrev do_form : Form
  do_form = record { code = 36; arguments = itself (spelled "DO") ∷ symbol ∷ []; operands = 1 ∷ [] }

  only_do : kept is_two operation_forms ≡ do_form ∷ []
  unfolding keep kept operation_forms
  only_do = refl

  module _ (w : List ℕ) where
    abbrev call : List (List ℕ)
    call = spelled "DO" ∷ w ∷ []

    do_fits : fits b call do_form ≡ is_label w
    unfolding fits are_kinds is_kind same spelled
    do_fits = and_right (is_label w)

    any_do : any (fits b call) operation_forms ≡ is_label w
    unfolding any
    any_do = any_kept (fits b call) is_two (other_length call refl) operation_forms ∙ rw (only_do, do_fits) (or_right (is_label w))
      where
        or_right : (t : Bool) → (t || false) ≡ t
        or_right true = refl
        or_right false = refl

    do_form_lem : is_label w ≡ true → form_of b call operation_forms ≡ do_form
    unfolding form_of
    do_form_lem e = form_kept call is_two (other_length call refl) operation_forms ∙ rw (only_do, do_fits, e)

  pub calls_one : (x : List (List ℕ)) (w : List ℕ) → expanded x ≡ spelled "DO" ∷ w ∷ [] → is_operation b x ≡ true → w ∷ [] ≡ calls_in b x
  unfolding calls_in is_operation symbols_in is_symbol
  calls_one x w is e =
      let fitting = (and_true (all is_argument x) (any (fits b (expanded x)) operation_forms) e).1 in
      let label : is_label w ≡ true = sym (any_do w) ∙ ap (λ (ws : List (List ℕ)). any (fits b ws) operation_forms) (sym is) ∙ fitting in
      rw (is, do_form_lem w label)
