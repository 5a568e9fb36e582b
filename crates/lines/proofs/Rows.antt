-- Rows that tests and operations become are well-formed: one computed test over each table of forms. Assumes nothing.
use Prim.Native.Nat.{ℕ, zero, suc, ◌^◌, ◌≤◌, ◌<◌}
use native.Mathlib.Omega.{arith}
use mathlib.Core.Path.{◌≡◌, refl}
use mathlib.Core.Bool.{Bool, true, false, not, ◌&&◌, ◌||◌, cond}
use mathlib.Core.List.{List, [], ◌∷◌, map}
use borrow.Author.Tests.{not-true, ltb-true, lt-ltb, le-leb}
use lib.Dec.{eqb, leb, ltb}
use lib.ListN.{length, get_or}
use Rattle.word.proofs.Tests.{by_test, and_true}
use Rattle.table.specs.declared.Pair.{Pair}
use Rattle.table.specs.declared.Row.{Row}
use Rattle.table.specs.declared.Operand.{Operand}
use Rattle.table.specs.declared.Operand.TheVariants.{Absent, Literal, Reference, Either, ReferenceOrAbsent, ReferenceOrZero, Line}
use Rattle.table.specs.declared.Shape.{Shape}
use Rattle.table.specs.Operands.{is_absent, is_literal, is_ref, is_zero, takes, shapes, test_shape}
use Rattle.table.specs.Table.{largest_name, fit_pairs, shape_of}
use Rattle.table.specs.Table as check
use Rattle.lines.specs.Words.{all, any, is_digit, is_name, name_number, literal, starts_with}
use Rattle.lines.specs.Words.{is_field, is_field_name, is_definition}
use Rattle.lines.specs.Words.{Kind, itself, field, decimal, octal, hollerith, field_or_decimal, field_or_octal, name, definition}
use Rattle.lines.specs.Words.{symbol, is_kind, absent_pair, literal_pair, field_pair, pair_of, gives_name, is_symbol, last_byte_of}
use Rattle.lines.specs.Forms.{Form, test_forms, operation_forms, are_kinds, fits, form_of, name_in, symbols_in, operand_at}
use Rattle.lines.specs.Forms.{pairs_of, row_in}
use Rattle.lines.proofs.Lists.{true_false, and_both, all_first, all_others}
use Rattle.lines.proofs.Operands.{field_reference, decimal_small, octal_small, hollerith_small, name_digit}

-- what a kind becomes: a literal, a reference, one of the two, zero, a row
pub data Sort : Type 0 where
  a_literal a_reference an_either a_zero a_row nothing : Sort

unfoldable pub sort_of : Kind → Sort
sort_of (itself v) = a_zero
sort_of field = a_reference
sort_of decimal = a_literal
sort_of octal = a_literal
sort_of hollerith = a_literal
sort_of field_or_decimal = an_either
sort_of field_or_octal = an_either
sort_of name = nothing
sort_of definition = nothing
sort_of symbol = a_row

-- a pair of that sort, in a table of this many rows
unfoldable pub Sorted : ℕ → ℕ → Sort → Pair → Type 0
Sorted b rows a_literal p = is_literal b p ≡ true
Sorted b rows a_reference p = is_ref p ≡ true
Sorted b rows an_either p = (is_literal b p || is_ref p) ≡ true
Sorted b rows a_zero p = is_zero p ≡ true
Sorted b rows a_row p = takes b rows Line p ≡ true
Sorted b rows nothing p = Unit

unfoldable pub allowed : Operand → Sort → Bool
allowed Absent s = false
allowed Literal a_literal = true
allowed Literal a_reference = false
allowed Literal an_either = false
allowed Literal a_zero = false
allowed Literal a_row = false
allowed Literal nothing = false
allowed Reference a_literal = false
allowed Reference a_reference = true
allowed Reference an_either = false
allowed Reference a_zero = false
allowed Reference a_row = false
allowed Reference nothing = false
allowed Either a_literal = true
allowed Either a_reference = true
allowed Either an_either = true
allowed Either a_zero = false
allowed Either a_row = false
allowed Either nothing = false
allowed ReferenceOrAbsent a_literal = false
allowed ReferenceOrAbsent a_reference = true
allowed ReferenceOrAbsent an_either = false
allowed ReferenceOrAbsent a_zero = false
allowed ReferenceOrAbsent a_row = false
allowed ReferenceOrAbsent nothing = false
allowed ReferenceOrZero a_literal = false
allowed ReferenceOrZero a_reference = true
allowed ReferenceOrZero an_either = false
allowed ReferenceOrZero a_zero = true
allowed ReferenceOrZero a_row = false
allowed ReferenceOrZero nothing = false
allowed Line a_literal = false
allowed Line a_reference = false
allowed Line an_either = false
allowed Line a_zero = false
allowed Line a_row = true
allowed Line nothing = false

or_left : (s t : Bool) → s ≡ true → (s || t) ≡ true
or_left true t e = refl
or_left false t e = absurd (true_false e refl)

or_right : (s : Bool) {t : Bool} → t ≡ true → (s || t) ≡ true
or_right true e = refl
or_right false e = e

module _ (b rows : ℕ) where
  allowed_takes : (op : Operand) (s : Sort) (p : Pair) → allowed op s ≡ true → Sorted b rows s p → takes b rows op p ≡ true
  unfolding allowed Sorted
  allowed_takes Absent s p a h = absurd (true_false a refl)
  allowed_takes Literal a_literal p a h = h
  allowed_takes Literal a_reference p a h = absurd (true_false a refl)
  allowed_takes Literal an_either p a h = absurd (true_false a refl)
  allowed_takes Literal a_zero p a h = absurd (true_false a refl)
  allowed_takes Literal a_row p a h = absurd (true_false a refl)
  allowed_takes Literal nothing p a h = absurd (true_false a refl)
  allowed_takes Reference a_literal p a h = absurd (true_false a refl)
  allowed_takes Reference a_reference p a h = h
  allowed_takes Reference an_either p a h = absurd (true_false a refl)
  allowed_takes Reference a_zero p a h = absurd (true_false a refl)
  allowed_takes Reference a_row p a h = absurd (true_false a refl)
  allowed_takes Reference nothing p a h = absurd (true_false a refl)
  allowed_takes Either a_literal p a h = or_left (is_literal b p) (is_ref p) h
  allowed_takes Either a_reference p a h = or_right (is_literal b p) h
  allowed_takes Either an_either p a h = h
  allowed_takes Either a_zero p a h = absurd (true_false a refl)
  allowed_takes Either a_row p a h = absurd (true_false a refl)
  allowed_takes Either nothing p a h = absurd (true_false a refl)
  allowed_takes ReferenceOrAbsent a_literal p a h = absurd (true_false a refl)
  allowed_takes ReferenceOrAbsent a_reference p a h = or_left (is_ref p) (is_absent p) h
  allowed_takes ReferenceOrAbsent an_either p a h = absurd (true_false a refl)
  allowed_takes ReferenceOrAbsent a_zero p a h = absurd (true_false a refl)
  allowed_takes ReferenceOrAbsent a_row p a h = absurd (true_false a refl)
  allowed_takes ReferenceOrAbsent nothing p a h = absurd (true_false a refl)
  allowed_takes ReferenceOrZero a_literal p a h = absurd (true_false a refl)
  allowed_takes ReferenceOrZero a_reference p a h = or_left (is_ref p) (is_zero p) h
  allowed_takes ReferenceOrZero an_either p a h = absurd (true_false a refl)
  allowed_takes ReferenceOrZero a_zero p a h = or_right (is_ref p) h
  allowed_takes ReferenceOrZero a_row p a h = absurd (true_false a refl)
  allowed_takes ReferenceOrZero nothing p a h = absurd (true_false a refl)
  allowed_takes Line a_literal p a h = absurd (true_false a refl)
  allowed_takes Line a_reference p a h = absurd (true_false a refl)
  allowed_takes Line an_either p a h = absurd (true_false a refl)
  allowed_takes Line a_zero p a h = absurd (true_false a refl)
  allowed_takes Line a_row p a h = h
  allowed_takes Line nothing p a h = absurd (true_false a refl)

  either_sorted : (v : ℕ) (w : List ℕ) (t : Bool) → is_field w ≡ t → (t ≡ false → ltb v (2 ^ b) ≡ true)
      → (is_literal b (cond t (field_pair w) (literal_pair v)) || is_ref (cond t (field_pair w) (literal_pair v))) ≡ true
  either_sorted v w true is h = field_reference w is
  either_sorted v w false is h = or_left (is_literal b (literal_pair v)) (is_ref (literal_pair v)) (h refl)

  -- an argument of a kind becomes a pair of its sort
  kind_sorted : (at : List ℕ → ℕ) (k : Kind) (w : List ℕ) → is_kind b k w ≡ true → (is_symbol k ≡ true → takes b rows Line (pair_of at symbol w) ≡ true)
      → Sorted b rows (sort_of k) (pair_of at k w)
  unfolding is_kind pair_of sort_of Sorted is_symbol
  kind_sorted at (itself v) w e h = refl
  kind_sorted at field w e h = field_reference w e
  kind_sorted at decimal w e h = decimal_small b w e
  kind_sorted at octal w e h = octal_small b w e
  kind_sorted at hollerith w e h = lt-ltb _ _ (hollerith_small b w e)
  kind_sorted at field_or_decimal w e h = either_sorted (literal 10 w) w (is_field w) refl (λ other. decimal_small b w (rw other at e))
  kind_sorted at field_or_octal w e h = either_sorted (literal 8 w) w (is_field w) refl (λ other. octal_small b w (rw other at e))
  kind_sorted at name w e h = tt
  kind_sorted at definition w e h = tt
  kind_sorted at symbol w e h = h refl

  -- the kind of an argument at a place
  kind_at : (ks : List Kind) (args : List (List ℕ)) (i : ℕ) → are_kinds b ks args ≡ true → i < length ks
      → is_kind b (get_or ks i (itself [])) (get_or args i []) ≡ true
  unfolding are_kinds
  kind_at [] args i e h = absurd (omega arith)
  kind_at (k ∷ ks) [] i e h = absurd (true_false e refl)
  kind_at (k ∷ ks) (w ∷ ws) zero e h = (and_true (is_kind b k w) (are_kinds b ks ws) e).0
  kind_at (k ∷ ks) (w ∷ ws) (suc i) e h = kind_at ks ws i (and_true (is_kind b k w) (are_kinds b ks ws) e).1 (omega arith)

  -- a label among arguments
  symbol_at : (p : List ℕ → Bool) (ks : List Kind) (args : List (List ℕ)) (i : ℕ) → all p (symbols_in ks args) ≡ true → are_kinds b ks args ≡ true → i < length ks
      → is_symbol (get_or ks i (itself [])) ≡ true → p (get_or args i []) ≡ true
  unfolding symbols_in are_kinds
  symbol_at p [] args i = λ a e h is. absurd (omega arith)
  symbol_at p (k ∷ ks) [] i = λ a e h is. absurd (true_false e refl)
  symbol_at p (k ∷ ks) (w ∷ ws) zero = λ a e h is. all_first p w (symbols_in ks ws) (rw is at a)
  symbol_at p (k ∷ ks) (w ∷ ws) (suc i) = λ a e h is.
      symbol_at p ks ws i
      (by_test (λ t. all p (cond t (w ∷ symbols_in ks ws) (symbols_in ks ws)) ≡ true → all p (symbols_in ks ws) ≡ true) (is_symbol k)
      (λ _ more. all_others p w (symbols_in ks ws) more) (λ _ more. more) a)
      (and_true (is_kind b k w) (are_kinds b ks ws) e).1 (omega arith) is

-- a place of a row, by the form's operands: what stands there is allowed
unfoldable pub absent_allowed : Operand → Bool
absent_allowed Absent = true
absent_allowed Literal = false
absent_allowed Reference = false
absent_allowed Either = false
absent_allowed ReferenceOrAbsent = true
absent_allowed ReferenceOrZero = false
absent_allowed Line = false

absent_takes : (b rows : ℕ) (op : Operand) → absent_allowed op ≡ true → takes b rows op absent_pair ≡ true
unfolding absent_allowed
absent_takes b rows Absent e = refl
absent_takes b rows Literal e = absurd (true_false e refl)
absent_takes b rows Reference e = absurd (true_false e refl)
absent_takes b rows Either e = absurd (true_false e refl)
absent_takes b rows ReferenceOrAbsent e = refl
absent_takes b rows ReferenceOrZero e = absurd (true_false e refl)
absent_takes b rows Line e = absurd (true_false e refl)

unfoldable pub place_allowed : Operand → List Kind → List ℕ → ℕ → Bool
place_allowed op ks [] n = absent_allowed op
place_allowed op ks (i ∷ is) zero = ltb i (length ks) && allowed op (sort_of (get_or ks i (itself [])))
place_allowed op ks (i ∷ is) (suc n) = place_allowed op ks is n

-- a form keeps what the table check asks of its code
unfoldable pub form_checked : ℕ → (ℕ → Shape) → Form → Bool
form_checked most shapeFor f =
    leb 1 f.code
    && (leb f.code most
    && (((shapeFor f.code).named || not (any gives_name f.arguments))
    && (place_allowed (shapeFor f.code).first f.arguments f.operands 0
    && (place_allowed (shapeFor f.code).second f.arguments f.operands 1
    && place_allowed (shapeFor f.code).third f.arguments f.operands 2))))

pub tests_checked : all (form_checked 7 (λ _. test_shape)) test_forms ≡ true
unfolding all any form_checked place_allowed absent_allowed allowed sort_of test_forms gives_name
tests_checked = refl

pub operations_checked : all (form_checked 36 shape_of) operation_forms ≡ true
unfolding all any form_checked place_allowed absent_allowed allowed sort_of operation_forms gives_name shape_of shapes
operations_checked = refl

-- the name that arguments give is 0 to 35, and 0 where no kind gives one
last_name : (w : List ℕ) → all is_name w ≡ true → name_number (last_byte_of w) ≤ 35
unfolding last_byte_of name_number is_digit
last_name [] e = omega arith
last_name (x ∷ []) e = (name_digit x (all_first is_name x [] e)).high
last_name (x ∷ y ∷ w) e = last_name (y ∷ w) (all_others is_name x (y ∷ w) e)

kind_name : (b : ℕ) (k : Kind) (w : List ℕ) → gives_name k ≡ true → is_kind b k w ≡ true → name_number (last_byte_of w) ≤ 35
unfolding gives_name is_kind is_field_name is_definition
kind_name b (itself v) w g e = absurd (true_false g refl)
kind_name b field w g e = absurd (true_false g refl)
kind_name b decimal w g e = absurd (true_false g refl)
kind_name b octal w g e = absurd (true_false g refl)
kind_name b hollerith w g e = absurd (true_false g refl)
kind_name b field_or_decimal w g e = absurd (true_false g refl)
kind_name b field_or_octal w g e = absurd (true_false g refl)
kind_name b name w g e = last_name w (and_true (eqb (length w) 1) (all is_name w) e).1
kind_name b definition w g e =
    last_name w (and_true (starts_with (eqb 68) w) (all is_name w) (and_true (eqb (length w) 2) (starts_with (eqb 68) w && all is_name w) e).1).1
kind_name b symbol w g e = absurd (true_false g refl)

name_most : (b : ℕ) (ks : List Kind) (args : List (List ℕ)) → are_kinds b ks args ≡ true → name_in ks args ≤ 35
unfolding name_in are_kinds
name_most b [] args e = omega arith
name_most b (k ∷ ks) [] e = omega arith
name_most b (k ∷ ks) (w ∷ ws) e =
    let (here, later) = and_true (is_kind b k w) (are_kinds b ks ws) e in
    by_test (λ t. gives_name k ≡ t → cond t (name_number (last_byte_of w)) (name_in ks ws) ≤ 35) (gives_name k)
    (λ _ g. kind_name b k w g here) (λ _ _. name_most b ks ws later) refl

name_none : (ks : List Kind) (args : List (List ℕ)) → any gives_name ks ≡ false → name_in ks args ≡ 0
unfolding name_in any
name_none [] args = λ e. refl
name_none (k ∷ ks) [] = λ e. refl
name_none (k ∷ ks) (w ∷ ws) =
    by_test (λ t. (t || any gives_name ks) ≡ false → cond t (name_number (last_byte_of w)) (name_in ks ws) ≡ 0) (gives_name k)
    (λ _ e. absurd (true_false refl e)) (λ _ e. name_none ks ws e)

name_fits : (b : ℕ) (ks : List Kind) (args : List (List ℕ)) (named : Bool) → (named || not (any gives_name ks)) ≡ true → are_kinds b ks args ≡ true
    → leb (name_in ks args) (largest_name named) ≡ true
name_fits b ks args true n e = le-leb (name_in ks args) 35 (name_most b ks args e)
name_fits b ks args false n e = rw (name_none ks args (not-true (any gives_name ks) n))

-- the form that is taken fits, and keeps what each form of the table keeps
pub record Taken (b : ℕ) (args : List (List ℕ)) (p : Form → Bool) (f : Form) : Type 0 where
  pub fitting : fits b args f ≡ true
  pub keeps : p f ≡ true

pub form_taken : (b : ℕ) (args : List (List ℕ)) (p : Form → Bool) (forms : List Form) → all p forms ≡ true → any (fits b args) forms ≡ true
    → Taken b args p (form_of b args forms)
unfolding any form_of
form_taken b args p [] a e = absurd (true_false e refl)
form_taken b args p (f ∷ forms) a e =
    by_test (λ t. fits b args f ≡ t → (t || any (fits b args) forms) ≡ true → Taken b args p (cond t f (form_of b args forms))) (fits b args f)
    (λ _ is _. record { fitting = is; keeps = all_first p f forms a })
    (λ _ _ later. form_taken b args p forms (all_others p f forms a) later) refl e

module _ (b rows : ℕ) (at : List ℕ → ℕ) where
  -- a label's row is one that DO takes
  abbrev pub row_taken : List ℕ → Bool
  row_taken w = takes b rows Line (pair_of at symbol w)

  place_takes : (op : Operand) (f : Form) (args : List (List ℕ)) (is : List ℕ) (n : ℕ) → place_allowed op f.arguments is n ≡ true
      → are_kinds b f.arguments args ≡ true → all row_taken (symbols_in f.arguments args) ≡ true
      → takes b rows op (get_or (map (operand_at at f args) is) n absent_pair) ≡ true
  unfolding place_allowed operand_at
  place_takes op f args [] n a e l = absent_takes b rows op a
  place_takes op f args (i ∷ is) zero a e l =
      let (low, good) = and_true (ltb i (length f.arguments)) (allowed op (sort_of (get_or f.arguments i (itself [])))) a in
      let inside = ltb-true i (length f.arguments) low in
      allowed_takes b rows op (sort_of (get_or f.arguments i (itself []))) _ good
      (kind_sorted b rows at (get_or f.arguments i (itself [])) (get_or args i []) (kind_at b rows f.arguments args i e inside)
      (symbol_at b rows row_taken f.arguments args i l e inside))
  place_takes op f args (i ∷ is) (suc n) a e l = place_takes op f args is n a e l

  -- a row of a form that keeps what the table check asks
  pub record Checked (most : ℕ) (shapeFor : ℕ → Shape) (row : Row) : Type 0 where
    pub code_low : leb 1 row.code ≡ true
    pub code_high : leb row.code most ≡ true
    pub all_fits : check.fits b rows (shapeFor row.code) row ≡ true

  pub row_checked : (most : ℕ) (shapeFor : ℕ → Shape) (kind next : ℕ) (f : Form) (args : List (List ℕ)) → form_checked most shapeFor f ≡ true
      → fits b args f ≡ true → all row_taken (symbols_in f.arguments args) ≡ true → Checked most shapeFor (row_in at kind next f args)
  unfolding form_checked fits row_in pairs_of fit_pairs
  row_checked most shapeFor kind next f args c e l =
      let (c1, d1) = and_true _ _ c in
      let (c2, d2) = and_true _ _ d1 in
      let (c3, d3) = and_true _ _ d2 in
      let (c4, d4) = and_true _ _ d3 in
      let (c5, c6) = and_true _ _ d4 in
      record {
        code_low = c1;
        code_high = c2;
        all_fits =
            and_both (name_fits b f.arguments args (shapeFor f.code).named c3 e)
            (and_both (place_takes (shapeFor f.code).first f args f.operands 0 c4 e l)
            (and_both (place_takes (shapeFor f.code).second f args f.operands 1 c5 e l)
            (place_takes (shapeFor f.code).third f args f.operands 2 c6 e l)));
      }
