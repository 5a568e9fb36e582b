-- What the functions read, as the definitions have it: kinds, sets and tests put together from their parts.
-- Assumes nothing.
use Prim.Native.Nat.{ℕ, zero, suc, ◌*◌, ◌-◌, ◌/◌, ◌%◌, ◌^◌, ◌≤◌, ◌<◌}
use native.Mathlib.Nat.{add-zero, div-eq_of_lt}
use native.Mathlib.Omega.{arith}
use mathlib.Core.Bool.{Bool, true, false, ◌&&◌, cond}
use mathlib.Core.List.{List, [], ◌∷◌, ◌++◌}
use mathlib.Core.Path.{◌≡◌, refl, ap, sym, ◌∙◌}
use borrow.Author.Tests.{eq-eqb, ne_eqb, eqb-true}
use lib.Dec.{eqb, leb}
use lib.ListN.{get_or, length}
use lib.Seq.{get_or-drop}
use lib.Pow.{pow_mono}
use Rattle.word.proofs.Tests.{and_true as and_parts}
use Rattle.table.specs.declared.FieldName.{FieldName}
use Rattle.table.specs.declared.Names.{Names}
use Rattle.table.specs.declared.Pair.{Pair}
use Rattle.table.specs.declared.Row.{Row}
use Rattle.table.specs.Reference.{reference_of, names_of}
use Rattle.table.specs.Row.{length_fits, rows, row_at, as_row, first_test, go_to_of, done}
use Rattle.defined.specs.Kinds.{is_kind, names_kind, line_names, operation_names, row_names, lowest_wrong, wrong_row}
use Rattle.std.specs.Prelude.{Option, Some, None, MatchOption}
use Rattle.std.specs.Option.{option_or, option_copied, option_map, unwrap_or}
use Rattle.std.proofs.Common.{Bor, min, leb-true, leb-false}
use Rattle.defined.specs.Paths.{pair_fields, fields_of}
use Rattle.defined.specs.Search.{has, without, including, set_after, Sets, joined_at, joined_to, leaving, set_past, entering}
use Rattle.defined.specs.Search.{tests_walked, first_in}
use Rattle.defined.proofs.Refers.{reference_fields, other_fields}

-- the kind of a row that is there, and of one that is not
pub kind_there : (table : List ℕ) (r : ℕ) → get_or table (10 * r) 0 ≡ (row_at table r).kind
unfolding row_at as_row
kind_there table r = sym (get_or-drop (10 * r) table 0 0 ∙ ap (λ i. get_or table i 0) (add-zero (10 * r)))

get_d_past : (xs : List ℕ) (i : ℕ) → length xs ≤ i → get_or xs i 0 ≡ 0
get_d_past [] i h = refl
get_d_past (x ∷ xs) zero h = absurd (omega arith)
get_d_past (x ∷ xs) (suc i) h = get_d_past xs i (omega arith)

pub whole_rows : (table : List ℕ) → length_fits table ≡ true → length table ≡ 10 * rows table
unfolding length_fits rows
whole_rows table h =
    let whole : length table % 10 ≡ 0 = eqb-true _ _ (and_parts (leb 20 (length table) && leb (length table) 8000) (eqb (length table % 10) 0) h).1 in
    omega arith

pub kind_found : (table : List ℕ) (r : ℕ) {at : ℕ} → at ≡ min (10 * r) (2 ^ 64 - 1) → length table ≤ 2 ^ 64 - 1
    → get_or table at 0 ≡ (row_at table r).kind
kind_found table r {at} e long = go (leb (10 * r) (2 ^ 64 - 1)) refl ∙ kind_there table r
  where
    go : (t : Bool) → leb (10 * r) (2 ^ 64 - 1) ≡ t → get_or table at 0 ≡ get_or table (10 * r) 0
    go true i = let inside = leb-true _ _ i in ap (λ n. get_or table n 0) (omega arith)
    go false i = let past = leb-false _ _ i in get_d_past table at (omega arith) ∙ sym (get_d_past table (10 * r) (omega arith))

-- what is copied out of a slice, or 0
pub copied_or : (o : Option (Bor ℕ)) {p : Option ℕ} {n : ℕ} → p ≡ option_copied o → unwrap_or (option_map (λ x. x.now) o) 0 ≡ n → unwrap_or p 0 ≡ n
copied_or None e f = ap (λ q. unwrap_or q 0) e ∙ f
copied_or (Some x) e f = ap (λ q. unwrap_or q 0) e ∙ f

-- a row's tests: its next of another kind, a line, an operation, a test
module _ (table : List ℕ) (row : Row) where
  pub names_not : names_kind table row.kind row.next ≡ false → false ≡ row_names table row
  unfolding row_names
  names_not n = rw n

  pub names_line : {t : Bool} → names_kind table row.kind row.next ≡ true → row.kind ≡ 1 → t ≡ line_names table row → t ≡ row_names table row
  unfolding row_names
  names_line n k t = rw (n, eq-eqb row.kind 1 k) t

  pub names_operation : {t : Bool} → names_kind table row.kind row.next ≡ true → row.kind ≡ 3 → t ≡ operation_names table row → t ≡ row_names table row
  unfolding row_names
  names_operation n k t = rw (n, ne_eqb row.kind 1 (λ e. omega arith), eq-eqb row.kind 3 k) t

  pub names_test : names_kind table row.kind row.next ≡ true → (row.kind ≡ 1 → ⊥) → (row.kind ≡ 3 → ⊥) → true ≡ row_names table row
  unfolding row_names
  names_test n o q = rw (n, ne_eqb row.kind 1 o, ne_eqb row.kind 3 q)

-- rows from r on
module _ (table : List ℕ) (r : ℕ) (inside : r < length table / 10) where
  more : length table / 10 - r ≡ suc (length table / 10 - suc r)
  more = omega arith

  pub wrong_here : row_names table (row_at table r) ≡ false → r ≡ lowest_wrong table r (length table / 10 - r)
  unfolding lowest_wrong
  wrong_here n = rw (more, lowest_wrong, n)

  pub wrong_later : row_names table (row_at table r) ≡ true → lowest_wrong table r (length table / 10 - r) ≡ lowest_wrong table (suc r) (length table / 10 - suc r)
  unfolding lowest_wrong
  wrong_later n = rw (more, lowest_wrong, n)

pub wrong_none : (table : List ℕ) (r : ℕ) → length table / 10 ≤ r → 0 ≡ lowest_wrong table r (length table / 10 - r)
unfolding lowest_wrong
wrong_none table r h = let none : length table / 10 - r ≡ 0 = omega arith in rw none

pub wrong_first : (table : List ℕ) → ((row_at table 1).kind ≡ 1 → ⊥) → 1 ≡ wrong_row table
unfolding wrong_row is_kind
wrong_first table o = rw (ne_eqb _ 1 o)

pub wrong_rest : (table : List ℕ) {r : ℕ} → (row_at table 1).kind ≡ 1 → r ≡ lowest_wrong table 1 (rows table - 1) → r ≡ wrong_row table
unfolding wrong_row is_kind
wrong_rest table k t = rw (eq-eqb _ 1 k) t

-- sets
pub has_far : (x n : ℕ) → x < 2 ^ 64 → 63 < n → false ≡ has x n
unfolding has
has_far x n small far =
    let wide : 2 ^ 64 ≤ 2 ^ n = pow_mono far in
    let none : x / 2 ^ n ≡ 0 = div-eq_of_lt (omega arith) in
    sym (ap (λ a. eqb (a % 2) 1) none)

-- the set after each kind of operation
module _ (row : Row) (x : ℕ) where
  pub after_definition : {y : ℕ} → row.code ≡ 2 → y ≡ without row.name x → y ≡ set_after row x
  unfolding set_after
  after_definition c e = rw (eq-eqb row.code 2 c) e

  pub after_restore : {y : ℕ} → row.code ≡ 35 → y ≡ including row.name x → y ≡ set_after row x
  unfolding set_after
  after_restore c e = rw (ne_eqb row.code 2 (λ q. omega arith), eq-eqb row.code 35 c) e

  pub after_plain : (row.code ≡ 2 → ⊥) → (row.code ≡ 35 → ⊥) → x ≡ set_after row x
  unfolding set_after
  after_plain o q = rw (ne_eqb row.code 2 o, ne_eqb row.code 35 q)

  pub past_a_do : (d : ℕ) → row.code ≡ 36 → d ≡ set_past d row x
  unfolding set_past
  past_a_do d c = rw (eq-eqb row.code 36 c)

  pub past_another : (d : ℕ) {y : ℕ} → (row.code ≡ 36 → ⊥) → y ≡ set_after row x → y ≡ set_past d row x
  unfolding set_past
  past_another d o e = rw (ne_eqb row.code 36 o) e

  module _ (sets : Sets) where
    pub enters : {t : Sets} → row.code ≡ 36 → t ≡ joined_at row.first.value x sets → t ≡ entering row x sets
    unfolding entering
    enters c e = rw (eq-eqb row.code 36 c) e

    pub enters_not : (row.code ≡ 36 → ⊥) → sets ≡ entering row x sets
    unfolding entering
    enters_not o = rw (ne_eqb row.code 36 o)

    pub leaves_done : {t : Sets} → go_to_of row ≡ done → t ≡ joined_at 0 x sets → t ≡ leaving row x sets
    unfolding leaving
    leaves_done c e = rw (eq-eqb (go_to_of row) done c) e

    pub leaves_next : {t : Sets} → go_to_of row ≡ 0 → t ≡ joined_to row.next x sets → t ≡ leaving row x sets
    unfolding leaving
    leaves_next c e = rw (ne_eqb (go_to_of row) done (λ q. omega arith), eq-eqb (go_to_of row) 0 c) e

    pub leaves_to : {t : Sets} → (go_to_of row ≡ done → ⊥) → (go_to_of row ≡ 0 → ⊥) → t ≡ joined_at (go_to_of row) x sets → t ≡ leaving row x sets
    unfolding leaving
    leaves_to o q e = rw (ne_eqb (go_to_of row) done o, ne_eqb (go_to_of row) 0 q) e

    pub tests_on : {t : Sets} → (first_test row ≡ 0 → ⊥) → t ≡ joined_to row.next x sets → t ≡ tests_walked row x sets
    unfolding tests_walked
    tests_on o e = rw (ne_eqb (first_test row) 0 o) e

    pub tests_none : first_test row ≡ 0 → sets ≡ tests_walked row x sets
    unfolding tests_walked
    tests_none z = rw (eq-eqb (first_test row) 0 z)

module _ (r x : ℕ) (sets : Sets) where
  pub joins_to : {t : Sets} → (r ≡ 0 → ⊥) → t ≡ joined_at r x sets → t ≡ joined_to r x sets
  unfolding joined_to
  joins_to o e = rw (ne_eqb r 0 o) e

  pub joins_none : r ≡ 0 → sets ≡ joined_to r x sets
  unfolding joined_to
  joins_none z = rw (eq-eqb r 0 z)

-- a pair of another form, and a reference by its names
pub pair_not : (p : Pair) (x : ℕ) → (p.form ≡ 2 → ⊥) → None ≡ first_in (pair_fields p) x
unfolding first_in
pair_not p x o = rw (other_fields p o)

pub pair_is : (p : Pair) (x : ℕ) (names : Names) {t : Option ℕ} → p.form ≡ 2 → names_of names ≡ reference_of p.value
    → t ≡ first_in (names_of names).fields x → t ≡ first_in (pair_fields p) x
pair_is p x names form same e = rw (reference_fields p form) (e ∙ ap (λ r. first_in r.fields x) same)

-- the first field of one list after the other
append_first : (fs gs : List FieldName) (x : ℕ) → first_in (fs ++ gs) x ≡ option_or (first_in fs x) (first_in gs x)
unfolding first_in
append_first [] gs x = refl
append_first (f ∷ fs) gs x =
    elim (has x f.0) as (λ t. cond t (Some f.0) (first_in (fs ++ gs) x) ≡ option_or (cond t (Some f.0) (first_in fs x)) (first_in gs x)) [
      | true ↦ refl
      | false ↦ append_first fs gs x
    ]

-- of a row's pairs, in their order
in_order : (row : Row) (x : ℕ) → option_or (option_or (first_in (pair_fields row.first) x) (first_in (pair_fields row.second) x))
    (first_in (pair_fields row.third) x) ≡ first_in (fields_of row) x
unfolding fields_of
in_order row x =
    sym (append_first (pair_fields row.first) _ x
    ∙ ap (option_or (first_in (pair_fields row.first) x)) (append_first (pair_fields row.second) (pair_fields row.third) x)
    ∙ grouped (first_in (pair_fields row.first) x) _ _)
  where
    grouped : (o p q : Option ℕ) → option_or o (option_or p q) ≡ option_or (option_or o p) q
    grouped None p q = refl
    grouped (Some n) p q = refl

pub pairs_asked : (row : Row) (x : ℕ) {o p q : Option ℕ} → o ≡ first_in (pair_fields row.first) x
    → p ≡ option_or o (first_in (pair_fields row.second) x) → q ≡ option_or p (first_in (pair_fields row.third) x) → q ≡ first_in (fields_of row) x
pairs_asked row x e f g =
    let two = f ∙ ap (λ o. option_or o (first_in (pair_fields row.second) x)) e in
    g ∙ ap (λ p. option_or p (first_in (pair_fields row.third) x)) two ∙ in_order row x

-- where there was none, another is asked
pub or_asked : (o : Option ℕ) {r s : Option ℕ} {P : Type 0} → MatchOption o P (λ n. r ≡ Some n) → (P → r ≡ s) → r ≡ option_or o s
or_asked None m f = f m
or_asked (Some n) m f = m
