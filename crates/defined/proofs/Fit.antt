-- What the table check and refusal 30 leave: every row is well-formed, and names rows of the right kind.
-- Assumes nothing.
use Prim.Native.Nat.{ℕ, zero, suc, ◌+◌, ◌-◌, ◌%◌, ◌≤◌, ◌<◌}
use native.Mathlib.Omega.{arith}
use mathlib.Core.Bool.{Bool, true, false, not, ◌&&◌, ◌||◌, cond}
use mathlib.Core.List.{List, [], ◌∷◌, map}
use mathlib.Core.Logic.{◌⊎◌, inl, inr, ⊎_elim}
use mathlib.Core.Path.{◌≡◌, refl, sym, subst, ◌∙◌}
use borrow.Author.Tests.{eqb-true, eqb-false, eq-eqb, ne_eqb, ltb-true, leb-true}
use lib.Dec.{eqb, leb, ltb}
use lib.ListN.{length}
use Rattle.word.proofs.Tests.{and_true as and_parts}
use Rattle.table.specs.declared.Operand.{Operand}
use Rattle.table.specs.declared.Operand.TheVariants.{Absent, Literal, Reference, Either, ReferenceOrAbsent, ReferenceOrZero, Line}
use Rattle.table.specs.declared.Pair.{Pair}
use Rattle.table.specs.declared.Row.{Row}
use Rattle.table.specs.declared.Shape.{Shape}
use Rattle.table.specs.Operands.{takes, is_ref, is_literal, is_absent, is_zero, test_shape, shapes}
use Rattle.table.specs.Reference.{is_reference, starts_with_bug, name_fields, names_field, names_bug, digits_of, reference_of, named}
use Rattle.table.specs.Reference.{names as digit_names}
use Rattle.table.specs.Row.{length_fits, rows, row_at, first_test, first_operation, go_to_of, done}
use Rattle.table.specs.Table.{chained, row_or_none, names_rows, complete, is_line, is_test, is_operation, fit_pairs, shape_of, shaped}
use Rattle.table.specs.Table.{well_formed_as, well_formed, lowest_from, largest_name}
use Rattle.machine.proofs.Checks.{or_parts, clash}
use Rattle.defined.specs.Kinds.{is_kind, names_kind, line_names, operation_names, row_names, lowest_wrong, wrong_row}
use Rattle.defined.specs.Paths.{names}
use Rattle.defined.proofs.Refers.{refers_to, row_refers, refers_by, refers_form}
use Rattle.defined.specs.Answer.{Passes, IsRow, RowOrNone}

-- from the lowest ill-formed row to every row
all_formed : (b : ℕ) (table : List ℕ) (r count : ℕ) → 0 < r → lowest_from b table r count ≡ 0 → (i : ℕ) → r ≤ i → i < r + count
    → well_formed b (rows table) i (row_at table i) ≡ true
unfolding lowest_from
all_formed b table r zero low h i from to = absurd (omega arith)
all_formed b table r (suc count) low h i from to =
    elim (well_formed b (rows table) r (row_at table r)) as (λ t. well_formed b (rows table) r (row_at table r) ≡ t
    → cond t (lowest_from b table (suc r) count) r ≡ 0 → well_formed b (rows table) i (row_at table i) ≡ true) [
      | true ↦ λ e k.
          elim (eqb r i) as (λ t. eqb r i ≡ t → well_formed b (rows table) i (row_at table i) ≡ true) [
            | true ↦ λ q. subst (λ j. well_formed b (rows table) j (row_at table j) ≡ true) (eqb-true r i q) e
            | false ↦ λ q.
                let o : (r ≡ i → ⊥) = eqb-false r i q in
                all_formed b table (suc r) count (omega arith) k i (omega arith) (omega arith)
          ] refl
      | false ↦ λ e k. absurd (omega arith)
    ] refl h

all_named : (table : List ℕ) (r count : ℕ) → 0 < r → lowest_wrong table r count ≡ 0 → (i : ℕ) → r ≤ i → i < r + count → row_names table (row_at table i) ≡ true
unfolding lowest_wrong
all_named table r zero low h i from to = absurd (omega arith)
all_named table r (suc count) low h i from to =
    elim (row_names table (row_at table r)) as (λ t. row_names table (row_at table r) ≡ t → cond t (lowest_wrong table (suc r) count) r ≡ 0
    → row_names table (row_at table i) ≡ true) [
      | true ↦ λ e k.
          elim (eqb r i) as (λ t. eqb r i ≡ t → row_names table (row_at table i) ≡ true) [
            | true ↦ λ q. subst (λ j. row_names table (row_at table j) ≡ true) (eqb-true r i q) e
            | false ↦ λ q.
                let o : (r ≡ i → ⊥) = eqb-false r i q in
                all_named table (suc r) count (omega arith) k i (omega arith) (omega arith)
          ] refl
      | false ↦ λ e k. absurd (omega arith)
    ] refl h

-- a number that is tested to name a row of this kind or none
names_kind_lem : (table : List ℕ) (kind r : ℕ) → names_kind table kind r ≡ true → (r ≡ 0 → ⊥) → (row_at table r).kind ≡ kind
unfolding names_kind is_kind
names_kind_lem table kind r h some =
    ⊎_elim (λ z. absurd (some (eqb-true r 0 z))) (λ k. eqb-true _ _ k) (or_parts (eqb r 0) (eqb (row_at table r).kind kind) h)

positive : (n : ℕ) → (n ≡ 0 → ⊥) → 0 < n
positive zero p = absurd (p refl)
positive (suc n) p = omega arith

row_or_none_lem : (n count : ℕ) → row_or_none count n ≡ true → (n ≡ 0 → ⊥) → n < count
row_or_none_lem n count h some = ⊎_elim (λ z. absurd (some (eqb-true n 0 z))) (λ k. ltb-true _ _ k) (or_parts (eqb n 0) (ltb n count) h)

-- the fields that a reference names have name numbers below 36
digit_below : (d n : ℕ) → digit_names 1 d ≡ true → d - 1 ≡ n → n < 36
unfolding digit_names
digit_below d n t e =
    let most : d ≤ 36 = leb-true _ _ (and_parts (leb 1 d) (leb d 36) t).1 in
    let least : 1 ≤ d = leb-true _ _ (and_parts (leb 1 d) (leb d 36) t).0 in
    omega arith

named_below : (ds : List ℕ) → name_fields ds ≡ true → (n : ℕ) → names (map (λ y. record { 0 = y - 1 }) ds) n ≡ true → n < 36
unfolding name_fields names names_field
named_below [] h n k = clash k
named_below (d ∷ ds) h n k =
    let (this, others) = and_parts (digit_names 1 d) (name_fields ds) h in
    ⊎_elim (λ e. digit_below d n this (eqb-true (d - 1) n e)) (λ q. named_below ds others n q) (or_parts (eqb (d - 1) n) _ k)

reference_below : (v n : ℕ) → is_reference v ≡ true → names (reference_of v).fields n ≡ true → n < 36
unfolding is_reference starts_with_bug reference_of named
reference_below v n h = go (digits_of v) (and_parts (ltb v _) (starts_with_bug (digits_of v)) h).1
  where
    go : (ds : List ℕ) → starts_with_bug ds ≡ true → names (named ds).fields n ≡ true → n < 36
    go [] s k = clash s
    go (d ∷ ds) s k = named_below ds (and_parts (names_bug d) (name_fields ds) s).1 n k

-- what an operand of form 2 takes is a reference
is_ref_value : (p : Pair) → is_ref p ≡ true → is_reference p.value ≡ true
is_ref_value p h = (and_parts (eqb p.form 2) (is_reference p.value) h).1

not_literal : (b : ℕ) (p : Pair) {P : Type 0} → p.form ≡ 2 → is_literal b p ≡ true → P
not_literal b p e h = absurd (omega (arith, eqb-true p.form 1 (and_parts (eqb p.form 1) _ h).0))

takes_reference : (b count : ℕ) (x : Operand) (p : Pair) → takes b count x p ≡ true → p.form ≡ 2 → is_reference p.value ≡ true
takes_reference b count Absent p h e = absurd (omega (arith, eqb-true p.form 0 (and_parts (eqb p.form 0) _ h).0))
takes_reference b count Literal p h e = not_literal b p e h
takes_reference b count Reference p h e = is_ref_value p h
takes_reference b count Either p h e = ⊎_elim (λ k. not_literal b p e k) (λ k. is_ref_value p k) (or_parts (is_literal b p) (is_ref p) h)
takes_reference b count ReferenceOrAbsent p h e =
    ⊎_elim (λ k. is_ref_value p k) (λ k. absurd (omega (arith, eqb-true p.form 0 (and_parts (eqb p.form 0) _ k).0))) (or_parts (is_ref p) (is_absent p) h)
takes_reference b count ReferenceOrZero p h e =
    ⊎_elim (λ k. is_ref_value p k) (λ k. absurd (omega (arith, eqb-true p.form 1 (and_parts (eqb p.form 1) _ k).0))) (or_parts (is_ref p) (is_zero p) h)
takes_reference b count Line p h e = not_literal b p e (and_parts (is_literal b p) _ h).0

pair_below : (b count : ℕ) (x : Operand) (p : Pair) → takes b count x p ≡ true → (n : ℕ) → refers_to p n ≡ true → n < 36
pair_below b count x p h n k =
    let (form, used) = refers_form p n k in
    reference_below p.value n (takes_reference b count x p h (eqb-true _ _ form)) used

pairs_below : (b count : ℕ) (s : Shape) (row : Row) → fit_pairs b count s row ≡ true → (n : ℕ) → row_refers row n ≡ true → n < 36
unfolding fit_pairs
pairs_below b count s row h n k =
    let (h₁, h₂) = and_parts (takes b count s.first row.first) _ h in
    let (h₃, h₄) = and_parts (takes b count s.second row.second) (takes b count s.third row.third) h₂ in
    refers_by row n (pair_below b count s.first _ h₁ n) (pair_below b count s.second _ h₃ n) (pair_below b count s.third _ h₄ n) k

-- each pair of form 2 is a reference
abbrev pub References : Row → Type 0
References row =
    (row.first.form ≡ 2 → is_reference row.first.value ≡ true)
    × (row.second.form ≡ 2 → is_reference row.second.value ≡ true)
    × (row.third.form ≡ 2 → is_reference row.third.value ≡ true)

pairs_references : (b count : ℕ) (s : Shape) (row : Row) → fit_pairs b count s row ≡ true → References row
unfolding fit_pairs
pairs_references b count s row h =
    let (h₁, h₂) = and_parts (takes b count s.first row.first) _ h in
    let (h₃, h₄) = and_parts (takes b count s.second row.second) (takes b count s.third row.third) h₂ in (
      λ e. takes_reference b count s.first _ h₁ e,
      λ e. takes_reference b count s.second _ h₃ e,
      λ e. takes_reference b count s.third _ h₄ e,
    )

-- a definition or a restore names one of 36 fields
name_below : (b count : ℕ) (row : Row) → is_operation b count row ≡ true → ((shape_of row.code).named ≡ true) → row.name < 36
unfolding is_operation
name_below b count row h c =
    let (_, h₁) = and_parts (leb 1 row.code) _ h in
    let (_, h₂) = and_parts (leb row.code 36) _ h₁ in
    let (h₃, _) = and_parts (leb row.name (largest_name (shape_of row.code).named)) (fit_pairs b count (shape_of row.code) row) h₂ in
    let h₄ : leb row.name 35 ≡ true = rw c at h₃ in
    let most : row.name ≤ 35 = leb-true _ _ h₄ in
    omega arith

module _ (b : ℕ) (table : List ℕ) (h : Passes b table) where
  pub few_rows : 2 ≤ rows table
  unfolding length_fits rows
  few_rows =
      let (k, _) = and_parts (leb 20 (length table) && leb (length table) 8000) (eqb (length table % 10) 0) h.long in
      let (low, _) = and_parts (leb 20 (length table)) (leb (length table) 8000) k in
      let least : 20 ≤ length table = leb-true _ _ low in
      omega arith

  -- a row as its kind has it
  formed_as : (kind r : ℕ) → IsRow table kind r → (chained (rows table) r (row_at table r).next ≡ true) × (shaped kind b (rows table) (row_at table r) ≡ true)
  unfolding well_formed well_formed_as
  formed_as kind r i =
      let row = row_at table r in
      let low : 0 < r = i.low in
      let high : r < rows table = i.high in
      let all = all_formed b table 1 (rows table - 1) (omega arith) h.formed r (omega arith) (omega arith) in
      ⊎_elim (λ k. ⊎_elim (λ q. at 1 q) (λ q. at 2 q) (or_parts (well_formed_as 1 b (rows table) r row) (well_formed_as 2 b (rows table) r row) k))
      (λ q. at 3 q) (or_parts (well_formed_as 1 b (rows table) r row || well_formed_as 2 b (rows table) r row) (well_formed_as 3 b (rows table) r row) all)
    where
      at : (k : ℕ) → well_formed_as k b (rows table) r (row_at table r) ≡ true
          → (chained (rows table) r (row_at table r).next ≡ true) × (shaped kind b (rows table) (row_at table r) ≡ true)
      at k q =
          let row = row_at table r in
          let (q₁, q₂) = and_parts (eqb row.kind k && chained (rows table) r row.next) (shaped k b (rows table) row) q in
          let (q₃, q₄) = and_parts (eqb row.kind k) (chained (rows table) r row.next) q₁ in
          let same : k ≡ kind = sym (eqb-true _ _ q₃) ∙ i.is in
          (q₄, subst (λ j. shaped j b (rows table) row ≡ true) same q₂)

  kinds_parts : (is_kind table 1 1 ≡ true) × (lowest_wrong table 1 (rows table - 1) ≡ 0)
  unfolding wrong_row
  kinds_parts = go (is_kind table 1 1) h.kinds
    where
      go : (t : Bool) → cond t (lowest_wrong table 1 (rows table - 1)) 1 ≡ 0 → (t ≡ true) × (lowest_wrong table 1 (rows table - 1) ≡ 0)
      go true k = (refl, k)
      go false k = absurd (omega arith)

  names_at : (kind r : ℕ) → IsRow table kind r → row_names table (row_at table r) ≡ true
  names_at kind r i =
      let low : 0 < r = i.low in
      let high : r < rows table = i.high in
      all_named table 1 (rows table - 1) (omega arith) kinds_parts.1 r (omega arith) (omega arith)

  pub first_line : IsRow table 1 1
  unfolding is_kind
  first_line = let two = few_rows in record { low = omega arith; high = omega arith; is = eqb-true _ _ kinds_parts.0 }

  -- a row that is no line is a test or an operation
  pub other_row : (r : ℕ) → 0 < r → r < rows table → ((row_at table r).kind ≡ 1 → ⊥) → IsRow table 2 r ⊎ IsRow table 3 r
  unfolding well_formed well_formed_as
  other_row r low high other =
      let row = row_at table r in
      let all = all_formed b table 1 (rows table - 1) (omega arith) h.formed r (omega arith) (omega arith) in
      ⊎_elim (λ k. ⊎_elim (λ q. absurd (other (kind_of_lem 1 q))) (λ q. inl (record { low = low; high = high; is = kind_of_lem 2 q }))
      (or_parts (well_formed_as 1 b (rows table) r row) (well_formed_as 2 b (rows table) r row) k))
      (λ q. inr (record { low = low; high = high; is = kind_of_lem 3 q }))
      (or_parts (well_formed_as 1 b (rows table) r row || well_formed_as 2 b (rows table) r row) (well_formed_as 3 b (rows table) r row) all)
    where
      kind_of_lem : (k : ℕ) → well_formed_as k b (rows table) r (row_at table r) ≡ true → (row_at table r).kind ≡ k
      kind_of_lem k q =
          let row = row_at table r in
          let (q₁, _) = and_parts (eqb row.kind k && chained (rows table) r row.next) (shaped k b (rows table) row) q in
          eqb-true _ _ (and_parts (eqb row.kind k) (chained (rows table) r row.next) q₁).0

  -- the row after a row: later, and of the same kind
  pub next_row : (kind r : ℕ) → IsRow table kind r → ((row_at table r).next ≡ 0 → ⊥) → IsRow table kind (row_at table r).next × (r < (row_at table r).next)
  unfolding row_names
  next_row kind r i some =
      let row = row_at table r in
      let (c, _) = formed_as kind r i in
      let (k, _) = and_parts (names_kind table row.kind row.next) _ (names_at kind r i) in
      let q : (ltb r row.next && ltb row.next (rows table)) ≡ true = ⊎_elim (λ z. absurd (some (eqb-true _ _ z))) (λ q. q)
      (or_parts (eqb row.next 0) _ c) in
      let (q₁, q₂) = and_parts (ltb r row.next) (ltb row.next (rows table)) q in
      (record { low = positive _ some; high = ltb-true _ _ q₂; is = names_kind_lem table _ _ k some ∙ i.is }, ltb-true _ _ q₁)

  module _ (l : ℕ) (i : IsRow table 1 l) where
    abbrev line : Row
    line = row_at table l

    line_parts : (names_rows (rows table) line ≡ true) × (line_names table line ≡ true)
    unfolding shaped is_line row_names
    line_parts =
        let (_, k) = formed_as 1 l i in
        let (_, q) = and_parts (names_kind table line.kind line.next) _ (names_at 1 l i) in
        ((and_parts (names_rows (rows table) line) (complete line) k).0, rw (eq-eqb line.kind 1 i.is) at q)

    pub test_row_lem : RowOrNone table 2 (first_test line)
    unfolding names_rows line_names
    test_row_lem some =
        let (k, q) = line_parts in
        record {
          low = positive _ some;
          high = row_or_none_lem _ _ (and_parts (row_or_none (rows table) (first_test line)) _ k).0 some;
          is = names_kind_lem table 2 _ (and_parts (names_kind table 2 (first_test line)) _ q).0 some;
        }

    pub operation_row_lem : RowOrNone table 3 (first_operation line)
    unfolding names_rows line_names
    operation_row_lem some =
        let (k, q) = line_parts in
        let (_, k₁) = and_parts (row_or_none (rows table) (first_test line)) _ k in
        let (_, q₁) = and_parts (names_kind table 2 (first_test line)) _ q in
        record {
          low = positive _ some;
          high = row_or_none_lem _ _ (and_parts (row_or_none (rows table) (first_operation line)) _ k₁).0 some;
          is = names_kind_lem table 3 _ (and_parts (names_kind table 3 (first_operation line)) _ q₁).0 some;
        }

    pub go_to_row_lem : (go_to_of line ≡ done → ⊥) → RowOrNone table 1 (go_to_of line)
    unfolding names_rows line_names
    go_to_row_lem other some =
        let (k, q) = line_parts in
        let (_, k₁) = and_parts (row_or_none (rows table) (first_test line)) _ k in
        let (_, k₂) = and_parts (row_or_none (rows table) (first_operation line)) _ k₁ in
        let (_, q₁) = and_parts (names_kind table 2 (first_test line)) _ q in
        let (_, q₂) = and_parts (names_kind table 3 (first_operation line)) _ q₁ in
        record {
          low = positive _ some;
          high = ⊎_elim (λ p. row_or_none_lem _ _ p some) (λ p. absurd (other (eqb-true _ _ p))) (or_parts (row_or_none (rows table) (go_to_of line)) _ k₂);
          is = ⊎_elim (λ p. absurd (other (eqb-true _ _ p))) (λ p. names_kind_lem table 1 _ p some) (or_parts (eqb (go_to_of line) done) _ q₂);
        }

  module _ (r : ℕ) (i : IsRow table 3 r) where
    abbrev row : Row
    row = row_at table r

    formed_operation : is_operation b (rows table) row ≡ true
    unfolding shaped
    formed_operation = (formed_as 3 r i).1

    -- an operation's name is below 36, whatever its code
    pub operation_name : row.name < 36
    unfolding is_operation
    operation_name =
        let (_, h₁) = and_parts (leb 1 row.code) _ formed_operation in
        let (_, h₂) = and_parts (leb row.code 36) _ h₁ in
        let (h₃, _) = and_parts (leb row.name (largest_name (shape_of row.code).named)) (fit_pairs b (rows table) (shape_of row.code) row) h₂ in
        go (shape_of row.code).named (leb-true _ _ h₃)
      where
        go : (t : Bool) → row.name ≤ largest_name t → row.name < 36
        go true k = omega arith
        go false k = omega arith

    -- its references are references
    pub operation_references : References row
    unfolding is_operation fit_pairs
    operation_references =
        let (_, h₁) = and_parts (leb 1 row.code) _ formed_operation in
        let (_, h₂) = and_parts (leb row.code 36) _ h₁ in
        let (_, h₃) = and_parts (leb row.name _) (fit_pairs b (rows table) (shape_of row.code) row) h₂ in
        pairs_references b (rows table) (shape_of row.code) row h₃

    pub definition_name : row.code ≡ 2 → row.name < 36
    unfolding shape_of shapes
    definition_name c = name_below b (rows table) row formed_operation (rw c)

    pub restore_name : row.code ≡ 35 → row.name < 36
    unfolding shape_of shapes
    restore_name c = name_below b (rows table) row formed_operation (rw c)

    pub do_row : row.code ≡ 36 → IsRow table 1 row.first.value
    unfolding is_operation fit_pairs shape_of shapes row_names operation_names is_kind
    do_row c =
        let (_, h₁) = and_parts (leb 1 row.code) _ formed_operation in
        let (_, h₂) = and_parts (leb row.code 36) _ h₁ in
        let (_, h₃) = and_parts (leb row.name _) (fit_pairs b (rows table) (shape_of row.code) row) h₂ in
        let (h₄, _) = and_parts (takes b (rows table) (shape_of row.code).first row.first) _ h₃ in
        let h₅ : takes b (rows table) (shape_of 36).first row.first ≡ true = rw c at h₄ in
        let (h₆, h₇) = and_parts (leb 1 row.first.value) (ltb row.first.value (rows table)) (and_parts (is_literal b row.first) _ h₅).1 in
        let (_, q) = and_parts (names_kind table row.kind row.next) _ (names_at 3 r i) in
        let q₁ : operation_names table row ≡ true = rw (ne_eqb row.kind 1 (λ e. three e), eq-eqb row.kind 3 i.is) at q in
        record { low = leb-true _ _ h₆; high = ltb-true _ _ h₇; is = ⊎_elim (λ p. other p) (λ p. eqb-true _ _ p) (or_parts (not (eqb row.code 36)) _ q₁) }
      where
        three : row.kind ≡ 1 → ⊥
        three e = let k : row.kind ≡ 3 = i.is in omega arith

        other : {P : Type 0} → not (eqb row.code 36) ≡ true → P
        other p = let p₁ : not (eqb 36 36) ≡ true = rw c at p in clash p₁

    pub operation_below : (n : ℕ) → row_refers row n ≡ true → n < 36
    unfolding is_operation
    operation_below =
        let (_, h₁) = and_parts (leb 1 row.code) _ formed_operation in
        let (_, h₂) = and_parts (leb row.code 36) _ h₁ in
        let (_, h₃) = and_parts (leb row.name _) (fit_pairs b (rows table) (shape_of row.code) row) h₂ in
        pairs_below b (rows table) _ row h₃

  pub test_below : (t : ℕ) → IsRow table 2 t → (n : ℕ) → row_refers (row_at table t) n ≡ true → n < 36
  unfolding shaped is_test
  test_below t i =
      let (_, k) = formed_as 2 t i in
      let (_, h₁) = and_parts (leb 1 (row_at table t).code) _ k in
      let (_, h₂) = and_parts (leb (row_at table t).code 7) _ h₁ in
      let (_, h₃) = and_parts (leb (row_at table t).name 0) (fit_pairs b (rows table) test_shape (row_at table t)) h₂ in
      pairs_below b (rows table) test_shape (row_at table t) h₃

  pub test_references : (t : ℕ) → IsRow table 2 t → References (row_at table t)
  unfolding shaped is_test
  test_references t i =
      let (_, k) = formed_as 2 t i in
      let (_, h₁) = and_parts (leb 1 (row_at table t).code) _ k in
      let (_, h₂) = and_parts (leb (row_at table t).code 7) _ h₁ in
      let (_, h₃) = and_parts (leb (row_at table t).name 0) (fit_pairs b (rows table) test_shape (row_at table t)) h₂ in
      pairs_references b (rows table) test_shape (row_at table t) h₃
