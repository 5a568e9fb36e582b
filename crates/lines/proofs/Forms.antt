-- Arguments fit one form of Table II at most, so that its order has no bearing. One computed test over each table. Assumes nothing.
use Prim.Native.Nat.{ℕ}
use mathlib.Core.Logic.{inl, inr}
use mathlib.Core.Path.{◌≡◌, refl}
use mathlib.Core.Bool.{Bool, true, false, not, ◌&&◌, ◌||◌, cond}
use mathlib.Core.List.Memᴰ
use mathlib.Core.List.{List, [], ◌∷◌, Memᴰ}
use borrow.Author.Tests.{not-true}
use Rattle.word.proofs.Tests.{by_test, and_true}
use Rattle.lines.specs.Words.{spelled, same, all, any, is_digit, is_letter, is_name, is_field}
use Rattle.lines.specs.Words.{is_decimal, is_octal, is_hollerith}
use Rattle.lines.specs.Words.{is_field_name, is_definition, is_label, is_mode, is_done, mode_words, starts_with, Kind, itself, field}
use Rattle.lines.specs.Words.{decimal, octal, hollerith}
use Rattle.lines.specs.Words.{field_or_decimal, field_or_octal, name, definition, symbol, is_kind}
use Rattle.lines.specs.Forms.{Form, test_forms, operation_forms, are_kinds, fits, form_of}
use Rattle.lines.proofs.Lists.{true_false, same_eq, all_first, all_others}

-- the word that a kind is
unfoldable pub is_itself : Kind → Bool
is_itself (itself v) = true
is_itself field = false
is_itself decimal = false
is_itself octal = false
is_itself hollerith = false
is_itself field_or_decimal = false
is_itself field_or_octal = false
is_itself name = false
is_itself definition = false
is_itself symbol = false

unfoldable pub word_of : Kind → List ℕ
word_of (itself v) = v
word_of field = []
word_of decimal = []
word_of octal = []
word_of hollerith = []
word_of field_or_decimal = []
word_of field_or_octal = []
word_of name = []
word_of definition = []
word_of symbol = []

module _ (b : ℕ) where
  -- no argument is of both kinds: one is a word that is not of the other
  unfoldable pub apart : Kind → Kind → Bool
  apart j k = (is_itself j && not (is_kind b k (word_of j))) || (is_itself k && not (is_kind b j (word_of k)))

  unfoldable pub apart_kinds : List Kind → List Kind → Bool
  apart_kinds [] [] = false
  apart_kinds [] (k ∷ ks) = true
  apart_kinds (j ∷ js) [] = true
  apart_kinds (j ∷ js) (k ∷ ks) = apart j k || apart_kinds js ks

  unfoldable pub all_apart_of : List Form → Bool
  all_apart_of [] = true
  all_apart_of (f ∷ fs) = all (λ (g : Form). apart_kinds f.arguments g.arguments) fs && all_apart_of fs

  itself_word : (k : Kind) (w : List ℕ) → is_itself k ≡ true → is_kind b k w ≡ true → word_of k ≡ w
  unfolding is_itself word_of is_kind
  itself_word (itself v) w is e = same_eq v w e
  itself_word field w is e = absurd (true_false is refl)
  itself_word decimal w is e = absurd (true_false is refl)
  itself_word octal w is e = absurd (true_false is refl)
  itself_word hollerith w is e = absurd (true_false is refl)
  itself_word field_or_decimal w is e = absurd (true_false is refl)
  itself_word field_or_octal w is e = absurd (true_false is refl)
  itself_word name w is e = absurd (true_false is refl)
  itself_word definition w is e = absurd (true_false is refl)
  itself_word symbol w is e = absurd (true_false is refl)

  one_side : (j k : Kind) (w : List ℕ) → (is_itself j && not (is_kind b k (word_of j))) ≡ true → is_kind b j w ≡ true → is_kind b k w ≡ true → ⊥
  one_side j k w a e f =
      let (is, other) = and_true (is_itself j) (not (is_kind b k (word_of j))) a in
      true_false f (rw (← (itself_word j w is e)) (not-true (is_kind b k (word_of j)) other))

  kinds_apart : (j k : Kind) (w : List ℕ) → apart j k ≡ true → is_kind b j w ≡ true → is_kind b k w ≡ true → ⊥
  unfolding apart
  kinds_apart j k w =
      by_test (λ t. (is_itself j && not (is_kind b k (word_of j))) ≡ t → (t || (is_itself k && not (is_kind b j (word_of k)))) ≡ true → is_kind b j w ≡ true
      → is_kind b k w ≡ true → ⊥)
      (is_itself j && not (is_kind b k (word_of j)))
      (λ _ a _ e f. one_side j k w a e f) (λ _ _ a e f. one_side k j w a f e) refl

  forms_apart : (js ks : List Kind) (args : List (List ℕ)) → apart_kinds js ks ≡ true → are_kinds b js args ≡ true → are_kinds b ks args ≡ true → ⊥
  unfolding apart_kinds are_kinds
  forms_apart [] [] args = λ a e f. true_false a refl
  forms_apart [] (k ∷ ks) [] = λ a e f. true_false f refl
  forms_apart [] (k ∷ ks) (w ∷ ws) = λ a e f. true_false e refl
  forms_apart (j ∷ js) [] [] = λ a e f. true_false e refl
  forms_apart (j ∷ js) [] (w ∷ ws) = λ a e f. true_false f refl
  forms_apart (j ∷ js) (k ∷ ks) [] = λ a e f. true_false e refl
  forms_apart (j ∷ js) (k ∷ ks) (w ∷ ws) = λ a e f.
      let (e1, e2) = and_true (is_kind b j w) (are_kinds b js ws) e in
      let (f1, f2) = and_true (is_kind b k w) (are_kinds b ks ws) f in
      by_test (λ t. apart j k ≡ t → (t || apart_kinds js ks) ≡ true → ⊥) (apart j k)
      (λ _ here _. kinds_apart j k w here e1 f1) (λ _ _ later. forms_apart js ks ws later e2 f2) refl a

  member_all : {A : Type 0} (p : A → Bool) {x : A} (xs : List A) → all p xs ≡ true → Memᴰ x xs → p x ≡ true
  unfolding all
  member_all p [] e m = absurd (Memᴰ.not-nil m)
  member_all p (y ∷ xs) e m =
      elim (Memᴰ.cases_cons m) [ inl eq ↦ rw eq (all_first p y xs e) | inr later ↦ member_all p xs (all_others p y xs e) later ]

  -- a form that fits is the form that is taken
  pub only_form : (args : List (List ℕ)) (f : Form) (forms : List Form) → all_apart_of forms ≡ true → Memᴰ f forms → fits b args f ≡ true
      → form_of b args forms ≡ f
  unfolding all_apart_of form_of fits
  only_form args f [] a m e = absurd (Memᴰ.not-nil m)
  only_form args f (g ∷ forms) a m e =
      let (first, others) = and_true (all (λ (h : Form). apart_kinds g.arguments h.arguments) forms) (all_apart_of forms) a in
      elim (Memᴰ.cases_cons m) [
        | inl eq ↦ rw (← eq, e)
        | inr later ↦
            by_test (λ t. are_kinds b g.arguments args ≡ t → cond t g (form_of b args forms) ≡ f) (are_kinds b g.arguments args)
            (λ _ also. absurd (forms_apart g.arguments f.arguments args
            (member_all (λ (h : Form). apart_kinds g.arguments h.arguments) forms first later) also e))
            (λ _ _. only_form args f forms others later e) refl
      ]

  pub tests_apart : all_apart_of test_forms ≡ true
  unfolding all_apart_of apart_kinds apart is_itself word_of test_forms all is_kind same spelled
  tests_apart = refl

  pub operations_apart : all_apart_of operation_forms ≡ true
  unfolding all_apart_of apart_kinds apart is_itself word_of operation_forms all is_kind same spelled is_field is_decimal is_octal is_hollerith is_field_name
      is_definition is_digit is_letter is_name starts_with is_label is_mode any mode_words is_done
  operations_apart = refl
