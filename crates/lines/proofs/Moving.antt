-- (a, Δ), written out as (a, P, aΔ), fits an operation exactly when a and aΔ are field designators. Assumes nothing.
use Prim.Native.Nat.{ℕ, ◌-◌, ◌≤◌, ◌<◌}
use native.Mathlib.Omega.{arith}
use mathlib.Core.Path.{◌≡◌, refl, ap, sym, ◌∙◌}
use mathlib.Core.Bool.{Bool, true, false, ◌&&◌, ◌||◌}
use mathlib.Core.List.{List, [], ◌∷◌, ◌++◌}
use borrow.Author.Tests.{le-leb, lt-leb, leb-true}
use lib.Dec.{leb}
use lib.ListN.{length, length-append}
use Rattle.word.proofs.Tests.{by_test, by_leb, and_true, and_false}
use Rattle.lines.specs.Words.{spelled, same, all, any, is_name, is_letter, starts_with, is_field, Kind, field, itself, is_kind}
use Rattle.lines.specs.Forms.{Form, operation_forms, are_kinds, fits}
use Rattle.lines.proofs.Lists.{true_false}
use Rattle.lines.proofs.Literals.{and_right, and_assoc}

-- the forms that pass a test
unfoldable pub keep : Bool → Form → List Form → List Form
keep true f fs = f ∷ fs
keep false f fs = fs

unfoldable pub kept : (Form → Bool) → List Form → List Form
kept q [] = []
kept q (f ∷ fs) = keep (q f) f (kept q fs)

pub any_kept : (p q : Form → Bool) → ((f : Form) → q f ≡ false → p f ≡ false) → (fs : List Form) → any p fs ≡ any p (kept q fs)
unfolding any keep kept
any_kept p q h [] = refl
any_kept p q h (f ∷ fs) =
    by_test (λ t. q f ≡ t → (p f || any p fs) ≡ any p (keep t f (kept q fs))) (q f)
    (λ _ _. ap (λ (t : Bool). p f || t) (any_kept p q h fs))
    (λ _ e. rw (h f e) (any_kept p q h fs)) refl

-- the form of (a, P, c)
abbrev pub point_form : Form
point_form = record { code = 6; arguments = field ∷ itself (spelled "P") ∷ field ∷ []; operands = 0 ∷ 2 ∷ [] }

-- three kinds, the second of which the word P is of
module _ (b : ℕ) where
  unfoldable pub pointing : List Kind → Bool
  pointing [] = false
  pointing (j ∷ []) = false
  pointing (j ∷ k ∷ []) = false
  pointing (j ∷ k ∷ l ∷ []) = is_kind b k (spelled "P")
  pointing (j ∷ k ∷ l ∷ m ∷ ks) = false

  module _ (x z : List ℕ) where
    abbrev three : List (List ℕ)
    three = x ∷ spelled "P" ∷ z ∷ []

    pub none_other : (ks : List Kind) → pointing ks ≡ false → are_kinds b ks three ≡ false
    unfolding pointing are_kinds
    none_other [] e = refl
    none_other (j ∷ []) e = and_false (is_kind b j x)
    none_other (j ∷ k ∷ []) e = rw (and_false (is_kind b k (spelled "P"))) (and_false (is_kind b j x))
    none_other (j ∷ k ∷ l ∷ []) e = rw e (and_false (is_kind b j x))
    none_other (j ∷ k ∷ l ∷ m ∷ ks) e =
        rw (and_false (is_kind b l z), and_false (is_kind b k (spelled "P"))) (and_false (is_kind b j x))

    pub only_pointing : kept (λ (f : Form). pointing f.arguments) operation_forms
        ≡ point_form ∷ []
    unfolding keep kept pointing operation_forms is_kind same spelled
    only_pointing = refl

    or_right : (t : Bool) → (t || false) ≡ t
    or_right true = refl
    or_right false = refl

    pub any_moved : any (fits b three) operation_forms ≡ (is_field x && is_field z)
    unfolding any fits are_kinds is_kind same spelled
    any_moved =
        any_kept (fits b three) (λ (f : Form). pointing f.arguments) (λ f e. none_other f.arguments e) operation_forms
        ∙ rw only_pointing (or_right (is_field x && (is_field z && true)) ∙ ap (λ (t : Bool). is_field x && t) (and_right (is_field z)))

-- a field designator with more names
pub all_both : (p : ℕ → Bool) (v w : List ℕ) → all p (v ++ w) ≡ (all p v && all p w)
unfolding all
all_both p [] w = refl
all_both p (x ∷ v) w = ap (λ (t : Bool). p x && t) (all_both p v w) ∙ sym (and_assoc (p x) (all p v) (all p w))

starts_append : (p : ℕ → Bool) (v w : List ℕ) → starts_with p v ≡ true → starts_with p (v ++ w) ≡ true
unfolding starts_with
starts_append p [] w e = absurd (true_false e refl)
starts_append p (x ∷ v) w e = e

module _ (a names : List ℕ) where
  pub not_moved : is_field a ≡ false → false ≡ (is_field a && is_field (a ++ names))
  not_moved e = rw e

  pub short_field : is_field a ≡ true → length a ≤ 6
  unfolding is_field
  short_field e = leb-true (length a) 6
      (and_true (leb (length a) 6) (all is_name a) (and_true (starts_with is_letter a) (leb (length a) 6 && all is_name a) e).1).0

  room : length a ≤ 6 → leb (length (a ++ names)) 6 ≡ leb (length names) (6 - length a)
  room h =
      let both = length-append a names in
      by_leb (λ t. t ≡ leb (length names) (6 - length a)) (length (a ++ names)) 6
      (λ (l : length (a ++ names) ≤ 6). sym (le-leb (length names) (6 - length a) (omega arith)))
      (λ (l : 6 < length (a ++ names)). sym (lt-leb (length names) (6 - length a) (omega arith)))

  longer : is_field a ≡ true → is_field (a ++ names) ≡ (leb (length names) (6 - length a) && all is_name names)
  unfolding is_field
  longer e =
      let (starts, more) = and_true (starts_with is_letter a) (leb (length a) 6 && all is_name a) e in
      let (short, every) = and_true (leb (length a) 6) (all is_name a) more in
      rw (starts_append is_letter a names starts, room (leb-true (length a) 6 short), all_both is_name a names, every)

  pub moved : is_field a ≡ true → (leb (length names) (6 - length a) && all is_name names) ≡ (is_field a && is_field (a ++ names))
  moved e = rw e (sym (longer e))
