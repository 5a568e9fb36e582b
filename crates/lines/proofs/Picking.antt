-- The form that arguments fit, its operands and its name: which argument each is, and of what kind. Assumes nothing.
use Prim.Native.Nat.{ℕ, zero, suc, ◌≤◌, ◌<◌}
use native.Mathlib.Omega.{arith}
use mathlib.Core.Path.{◌≡◌, refl, ap, sym, ◌∙◌}
use mathlib.Core.Bool.{Bool, true, false, cond}
use mathlib.Core.List.{List, [], ◌∷◌, map}
use borrow.Author.Tests.{ltb-true}
use lib.Dec.{ltb}
use lib.ListN.{length, get_or}
use Rattle.std.specs.Prelude.{Some, None, find, is_some, slice_get, zip}
use Rattle.word.proofs.Tests.{by_test, and_true}
use Rattle.table.specs.declared.Pair.{Pair}
use Rattle.lines.specs.declared.Kind.{Kind as RustKind}
use Rattle.lines.specs.Words.{all, any, Kind, itself, is_kind, pair_of, absent_pair, gives_name, name_number, last_byte_of}
use Rattle.lines.specs.Forms.{Form, test_forms, operation_forms, are_kinds, fits, form_of, name_in, operand_at, pairs_of, row_in}
use Rattle.lines.specs.Walking.{kind_of, within, forms_of}
use Rattle.lines.proofs.Lists.{true_false, all_first, all_others}
use Rattle.lines.proofs.Library.{any_found}
use Rattle.lines.proofs.Parts.{none_not_some, some_eq}
use Rattle.lines.proofs.Calling.{as_many}

-- the form that is found
module _ (b : ℕ) (args : List (List ℕ)) where
  pub found_form : (fs : List Form) {f : Form} → Some f ≡ find (fits b args) fs → form_of b args fs ≡ f
  unfolding form_of
  found_form [] e = absurd (none_not_some (sym e))
  found_form (g ∷ fs) {f} e =
      by_test (λ t. Some f ≡ cond t (Some g) (find (fits b args) fs) → cond t g (form_of b args fs) ≡ f) (fits b args g)
      (λ _ h. sym (some_eq h)) (λ _ h. found_form fs h) e

  pub found_fits : (fs : List Form) {f : Form} → Some f ≡ find (fits b args) fs → fits b args f ≡ true
  found_fits [] e = absurd (none_not_some (sym e))
  found_fits (g ∷ fs) {f} e =
      by_test (λ t. fits b args g ≡ t → Some f ≡ cond t (Some g) (find (fits b args) fs) → fits b args f ≡ true) (fits b args g)
      (λ _ is h. ap (fits b args) (some_eq h) ∙ is) (λ _ _ h. found_fits fs h) refl e

  pub none_found : (fs : List Form) → any (fits b args) fs ≡ true → None ≡ find (fits b args) fs → ⊥
  none_found fs e n = true_false (any_found (fits b args) fs ∙ e) (ap is_some (sym n))

-- what all of a list has, what is found in it has
found_all : (q p : Form → Bool) (fs : List Form) {f : Form} → all q fs ≡ true → Some f ≡ find p fs → q f ≡ true
found_all q p [] a e = absurd (none_not_some (sym e))
found_all q p (g ∷ fs) {f} a e =
    by_test (λ t. Some f ≡ cond t (Some g) (find p fs) → q f ≡ true) (p g) (λ _ h. ap q (some_eq h) ∙ all_first q g fs a)
    (λ _ h. found_all q p fs (all_others q g fs a) h) e

tests_within : all within test_forms ≡ true
unfolding all within test_forms
tests_within = refl

operations_within : all within operation_forms ≡ true
unfolding all within operation_forms
operations_within = refl

pub found_within : (tests : Bool) (p : Form → Bool) {f : Form} → Some f ≡ find p (forms_of tests) → within f ≡ true
unfolding forms_of
found_within true p e = found_all within p test_forms tests_within e
found_within false p e = found_all within p operation_forms operations_within e

all_at : (q : ℕ → Bool) (xs : List ℕ) (k : ℕ) → all q xs ≡ true → k < length xs → q (get_or xs k 0) ≡ true
unfolding all
all_at q [] k e l = absurd (omega arith)
all_at q (x ∷ xs) zero e l = all_first q x xs e
all_at q (x ∷ xs) (suc k) e l = all_at q xs k (all_others q x xs e) (omega arith)

kinds_are : (b : ℕ) (ks : List Kind) (args : List (List ℕ)) (i : ℕ) (d : Kind) → are_kinds b ks args ≡ true → i < length ks
    → is_kind b (get_or ks i d) (get_or args i []) ≡ true
unfolding are_kinds
kinds_are b [] args i d e l = absurd (omega arith)
kinds_are b (k ∷ ks) [] i d e l = absurd (true_false e refl)
kinds_are b (k ∷ ks) (w ∷ ws) zero d e l = (and_true (is_kind b k w) (are_kinds b ks ws) e).0
kinds_are b (k ∷ ks) (w ∷ ws) (suc i) d e l = kinds_are b ks ws i d (and_true (is_kind b k w) (are_kinds b ks ws) e).1 (omega arith)

-- an argument by its number
pub get_none : (ws : List (List ℕ)) (i : ℕ) → i < length ws → None ≡ slice_get ws i → ⊥
get_none [] i l e = absurd (omega arith)
get_none (w ∷ ws) zero l e = none_not_some e
get_none (w ∷ ws) (suc i) l e = get_none ws i (omega arith) e

pub get_some : (ws : List (List ℕ)) (i : ℕ) {w : List ℕ} → Some w ≡ slice_get ws i → get_or ws i [] ≡ w
get_some [] i e = absurd (none_not_some (sym e))
get_some (v ∷ ws) zero e = sym (some_eq e)
get_some (v ∷ ws) (suc i) e = get_some ws i e

-- a kind by its number, as the code has it
pub kind_there : (ks : List RustKind) (i : ℕ) (d : Kind) {k : RustKind} → i < length ks → ((e : RustKind) → k ≡ get_or ks i e)
    → get_or (map kind_of ks) i d ≡ kind_of k
kind_there [] i d l e = absurd (omega arith)
kind_there (j ∷ ks) zero d l e = ap kind_of (sym (e j))
kind_there (j ∷ ks) (suc i) d l e = kind_there ks i d (omega arith) e

pub kind_inside : (ks : List RustKind) (i : ℕ) → i < length (map kind_of ks) → length ks ≤ i → ⊥
kind_inside [] i l m = absurd (omega arith)
kind_inside (j ∷ ks) zero l m = absurd (omega arith)
kind_inside (j ∷ ks) (suc i) l m = kind_inside ks i (omega arith) (omega arith)

-- operand k of a form, and the pair that it becomes
module _ (b : ℕ) (f : Form) (args : List (List ℕ)) (k : ℕ) where
  pub no_pair : (at : List ℕ → ℕ) → length f.operands ≤ k → absent_pair ≡ get_or (pairs_of at f args) k absent_pair
  unfolding pairs_of
  no_pair at l = past (operand_at at f args) f.operands k l
    where
      past : (g : ℕ → Pair) (xs : List ℕ) (k : ℕ) → length xs ≤ k → absent_pair ≡ get_or (map g xs) k absent_pair
      past g [] k l = refl
      past g (x ∷ xs) zero l = absurd (omega arith)
      past g (x ∷ xs) (suc k) l = past g xs k (omega arith)

  module _ (low : k < length f.operands) {i : ℕ} (e : i ≡ get_or f.operands k 0) where
    pub in_form : within f ≡ true → i < length f.arguments
    unfolding within
    in_form w = ltb-true i (length f.arguments)
        (ap (λ (n : ℕ). ltb n (length f.arguments)) e ∙ all_at (λ (n : ℕ). ltb n (length f.arguments)) f.operands k w low)

    pub pair_here : (at : List ℕ → ℕ) → pair_of at (get_or f.arguments i (itself [])) (get_or args i []) ≡ get_or (pairs_of at f args) k absent_pair
    unfolding pairs_of operand_at
    pair_here at = ap (λ (n : ℕ). pair_of at (get_or f.arguments n (itself [])) (get_or args n [])) e ∙ here (operand_at at f args) f.operands k low
      where
        here : (g : ℕ → Pair) (xs : List ℕ) (k : ℕ) → k < length xs → g (get_or xs k 0) ≡ get_or (map g xs) k absent_pair
        here g [] k l = absurd (omega arith)
        here g (x ∷ xs) zero l = refl
        here g (x ∷ xs) (suc k) l = here g xs k (omega arith)

    module _ (w : within f ≡ true) (fitting : fits b args f ≡ true) where
      pub in_arguments : i < length args
      unfolding fits
      in_arguments = let here = in_form w in let many = as_many b f.arguments args fitting in omega arith

      pub kind_fits : is_kind b (get_or f.arguments i (itself [])) (get_or args i []) ≡ true
      unfolding fits
      kind_fits = kinds_are b f.arguments args i (itself []) fitting (in_form w)

-- the name that arguments give: that of the first kind that gives one
pub name_found : (ks : List RustKind) (ws : List (List ℕ)) {k : RustKind} {w : List ℕ} → Some (k, w) ≡ find (λ p. gives_name (kind_of p.0)) (zip ks ws)
    → name_number (last_byte_of w) ≡ name_in (map kind_of ks) ws
unfolding name_in
name_found [] ws e = absurd (none_not_some (sym e))
name_found (j ∷ ks) [] e = absurd (none_not_some (sym e))
name_found (j ∷ ks) (v ∷ ws) {k} {w} e =
    by_test (λ t. Some (k, w) ≡ cond t (Some (j, v)) (find (λ p. gives_name (kind_of p.0)) (zip ks ws))
    → name_number (last_byte_of w) ≡ cond t (name_number (last_byte_of v)) (name_in (map kind_of ks) ws)) (gives_name (kind_of j))
    (λ _ h. ap (λ (p : RustKind × List ℕ). name_number (last_byte_of p.1)) (some_eq h)) (λ _ h. name_found ks ws h) e

pub name_none : (ks : List RustKind) (ws : List (List ℕ)) → None ≡ find (λ p. gives_name (kind_of p.0)) (zip ks ws) → 0 ≡ name_in (map kind_of ks) ws
unfolding name_in
name_none [] ws e = refl
name_none (j ∷ ks) [] e = refl
name_none (j ∷ ks) (v ∷ ws) e =
    by_test (λ t. None ≡ cond t (Some (j, v)) (find (λ p. gives_name (kind_of p.0)) (zip ks ws))
    → 0 ≡ cond t (name_number (last_byte_of v)) (name_in (map kind_of ks) ws)) (gives_name (kind_of j))
    (λ _ h. absurd (none_not_some h)) (λ _ h. name_none ks ws h) e

-- a row by its parts
pub row_is : (at : List ℕ → ℕ) (kind next : ℕ) (f g : Form) (args : List (List ℕ)) {named : ℕ} {p q r : Pair} → g ≡ f → named ≡ name_in f.arguments args
    → p ≡ get_or (pairs_of at f args) 0 absent_pair → q ≡ get_or (pairs_of at f args) 1 absent_pair → r ≡ get_or (pairs_of at f args) 2 absent_pair
    → record { kind = kind; next = next; code = f.code; name = named; first = p; second = q; third = r } ≡ row_in at kind next g args
unfolding row_in
row_is at kind next f g args same_form d h i j = rw (same_form, d, h, i, j)
