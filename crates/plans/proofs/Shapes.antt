-- The operands of an operation's row, by its code: as code takes them. Assumes nothing.
use Prim.Native.Nat.{ℕ, zero, suc, ◌≤◌, ◌<◌}
use native.Mathlib.Omega.{arith}
use mathlib.Core.Bool.{Bool, true, false, ◌&&◌, ◌||◌, cond}
use mathlib.Core.List.{List}
use mathlib.Core.Logic.{⊎_elim}
use mathlib.Core.Path.{◌≡◌, refl, sym, subst}
use borrow.Author.Tests.{eqb-true, eqb-false, leb-true, ltb-true, lt-ltb, le-ltb, eq-eqb, ne_eqb}
use lib.Dec.{eqb, ltb, leb}
use lib.Pow.{pow_pos}
use Rattle.word.proofs.Tests.{and_true as and_parts}
use Rattle.table.specs.declared.Operand.{Operand}
use Rattle.table.specs.declared.Operand.TheVariants.{Absent, Literal, Reference, Either, ReferenceOrAbsent, ReferenceOrZero, Line}
use Rattle.table.specs.declared.Shape.{Shape}
use Rattle.table.specs.declared.Pair.{Pair}
use Rattle.table.specs.declared.Row.{Row}
use Rattle.table.specs.Reference.{is_reference}
use Rattle.table.specs.Operands.{takes, is_absent, is_ref, is_zero, is_literal, shapes}
use Rattle.table.specs.Row.{rows, row_at}
use Rattle.table.specs.Table.{usable, shaped, is_operation, shape_of, fits, fit_pairs, largest_name}
use Rattle.machine.proofs.Checks.{or_parts, clash}
use Rattle.operands.specs.Reading.{Taken}
use Rattle.operations.specs.Plans.{Acts}
use Rattle.operations.specs.Rows.{Stacked, Two, Three, Operates}
use Rattle.plans.proofs.Rows.{used, ref_taken, either_taken}

-- a test that holds of each number below n holds of each of them
unfoldable pub all_below : (ℕ → Bool) → ℕ → Bool
all_below f zero = true
all_below f (suc n) = f n && all_below f n

pub at_below : (f : ℕ → Bool) (n : ℕ) → all_below f n ≡ true → (k : ℕ) → k < n → f k ≡ true
unfolding all_below
at_below f zero h k less = absurd (omega arith)
at_below f (suc n) h k less =
    let (here, others) = and_parts (f n) (all_below f n) h in
    elim (eqb k n) as (λ s. eqb k n ≡ s → f k ≡ true) [
      | true ↦ λ e. subst (λ (i : ℕ). f i ≡ true) (sym (eqb-true k n e)) here
      | false ↦ λ e. let other = eqb-false k n e in at_below f n others k (omega arith)
    ] refl

-- an operand that code takes by its form
unfoldable is_taken : Operand → Bool
is_taken Absent = false
is_taken Literal = false
is_taken Reference = true
is_taken Either = true
is_taken ReferenceOrAbsent = false
is_taken ReferenceOrZero = true
is_taken Line = false

-- one that is a reference
unfoldable is_refer : Operand → Bool
is_refer Absent = false
is_refer Literal = false
is_refer Reference = true
is_refer Either = false
is_refer ReferenceOrAbsent = false
is_refer ReferenceOrZero = false
is_refer Line = false

-- one that is a reference where it is there
unfoldable is_maybe : Operand → Bool
is_maybe Absent = true
is_maybe Literal = false
is_maybe Reference = true
is_maybe Either = false
is_maybe ReferenceOrAbsent = true
is_maybe ReferenceOrZero = false
is_maybe Line = false

-- one that is a row
unfoldable is_line : Operand → Bool
is_line Absent = false
is_line Literal = false
is_line Reference = false
is_line Either = false
is_line ReferenceOrAbsent = false
is_line ReferenceOrZero = false
is_line Line = true

module _ (b n : ℕ) where
  taken : (o : Operand) (p : Pair) → is_taken o ≡ true → takes b n o p ≡ true → Taken b p
  unfolding is_taken
  taken Absent p k h = clash k
  taken Literal p k h = clash k
  taken Reference p k h = ref_taken b p h
  taken Either p k h = either_taken b p h
  taken ReferenceOrAbsent p k h = clash k
  taken ReferenceOrZero p k h = ⊎_elim (ref_taken b p) (zero_taken p) (or_parts (is_ref p) (is_zero p) h)
    where
      zero_taken : (p : Pair) → is_zero p ≡ true → Taken b p
      zero_taken p h =
          let (form, none) = and_parts (eqb p.form 1) (eqb p.value 0) h in
          record {
            literal = λ _. rw (eqb-true p.value 0 none) (pow_pos b);
            reference = λ other. absurd (other (eqb-true p.form 1 form));
          }
  taken Line p k h = clash k

  refers : (o : Operand) (p : Pair) → is_refer o ≡ true → takes b n o p ≡ true → is_reference p.value ≡ true
  unfolding is_refer
  refers Absent p k h = clash k
  refers Literal p k h = clash k
  refers Reference p k h = (and_parts (eqb p.form 2) (is_reference p.value) h).1
  refers Either p k h = clash k
  refers ReferenceOrAbsent p k h = clash k
  refers ReferenceOrZero p k h = clash k
  refers Line p k h = clash k

  refers_there : (o : Operand) (p : Pair) → is_maybe o ≡ true → takes b n o p ≡ true → (p.form ≡ 0 → ⊥) → is_reference p.value ≡ true
  unfolding is_maybe
  refers_there Absent p k h some = absurd (some (eqb-true p.form 0 (and_parts (eqb p.form 0) (eqb p.value 0) h).0))
  refers_there Literal p k h some = clash k
  refers_there Reference p k h some = (and_parts (eqb p.form 2) (is_reference p.value) h).1
  refers_there Either p k h some = clash k
  refers_there ReferenceOrAbsent p k h some =
      ⊎_elim (λ is. (and_parts (eqb p.form 2) (is_reference p.value) is).1)
      (λ is. absurd (some (eqb-true p.form 0 (and_parts (eqb p.form 0) (eqb p.value 0) is).0)))
      (or_parts (is_ref p) (is_absent p) h)
  refers_there ReferenceOrZero p k h some = clash k
  refers_there Line p k h some = clash k

  names_row : (o : Operand) (p : Pair) → is_line o ≡ true → takes b n o p ≡ true → (1 ≤ p.value) × (p.value < n)
  unfolding is_line
  names_row Absent p k h = clash k
  names_row Literal p k h = clash k
  names_row Reference p k h = clash k
  names_row Either p k h = clash k
  names_row ReferenceOrAbsent p k h = clash k
  names_row ReferenceOrZero p k h = clash k
  names_row Line p k h =
      let (low, high) = and_parts (leb 1 p.value) (ltb p.value n) (and_parts (is_literal b p) _ h).1 in
      (leb-true _ _ low, ltb-true _ _ high)

-- each code's operands, along the order in which a plan looks at codes
unfoldable is_three : Shape → Bool
is_three s = is_taken s.first && (is_taken s.second && is_taken s.third)

unfoldable is_two : Shape → Bool
is_two s = is_refer s.first && (is_taken s.second && is_maybe s.third)

unfoldable is_shaped : ℕ → Shape → Bool
is_shaped code s =
    ltb code 2
    || cond (ltb 31 code) (cond (ltb 33 code) (ltb code 36 || is_line s.first) (is_refer s.first))
    (cond (eqb code 2) (is_three s)
    (cond (eqb code 7) (is_refer s.first && is_refer s.second)
    (cond (eqb code 25) (is_taken s.first && is_taken s.second) (is_two s))))

all_shaped : all_below (λ code. is_shaped code (shape_of code)) 37 ≡ true
unfolding all_below is_shaped is_three is_two is_taken is_refer is_maybe is_line shape_of shapes
all_shaped = refl

-- a name, where there is one, is one of 36
name_fits : (name : ℕ) (named : Bool) → leb name (largest_name named) ≡ true → name < 36
name_fits name true h = let low = leb-true name 35 h in omega arith
name_fits name false h = let low = leb-true name 0 h in omega arith

module _ (b : ℕ) (table : List ℕ) (r : ℕ) (u : usable 3 b table r ≡ true) where
  abbrev the_row : Row
  the_row = row_at table r

  abbrev the_shape : Shape
  the_shape = shape_of the_row.code

  record Fitting : Type 0 where
    low : 1 ≤ the_row.code
    high : the_row.code ≤ 36
    name : the_row.name < 36
    first : takes b (rows table) the_shape.first the_row.first ≡ true
    second : takes b (rows table) the_shape.second the_row.second ≡ true
    third : takes b (rows table) the_shape.third the_row.third ≡ true

  fitting : Fitting
  unfolding shaped is_operation fit_pairs
  fitting =
      let (low, k₁) = and_parts (leb 1 the_row.code) (leb the_row.code 36 && fits b (rows table) the_shape the_row) (used 3 b table r u).numbers in
      let (high, k₂) = and_parts (leb the_row.code 36) (fits b (rows table) the_shape the_row) k₁ in
      let (name, k₃) = and_parts (leb the_row.name (largest_name the_shape.named)) (fit_pairs b (rows table) the_shape the_row) k₂ in
      let (first, k₄) = and_parts (takes b (rows table) the_shape.first the_row.first) _ k₃ in
      let (second, third) = and_parts (takes b (rows table) the_shape.second the_row.second) _ k₄ in
      record {
        low = leb-true _ _ low;
        high = leb-true _ _ high;
        name = name_fits the_row.name the_shape.named name;
        first = first;
        second = second;
        third = third;
      }

  shaped_so : is_shaped the_row.code the_shape ≡ true
  shaped_so = at_below (λ code. is_shaped code (shape_of code)) 37 all_shaped the_row.code (omega (arith, fitting.high))

  is_first_lem : is_refer the_shape.first ≡ true → is_reference the_row.first.value ≡ true
  is_first_lem k = refers b (rows table) the_shape.first the_row.first k fitting.first

  stacked : 31 < the_row.code → Stacked the_row
  unfolding is_shaped
  stacked low =
      record {
        contents = λ high.
            is_first_lem (rw (le-ltb the_row.code 2 (omega arith), lt-ltb 31 the_row.code low, le-ltb 33 the_row.code high) at shaped_so);
        name = fitting.name;
      }

  three : the_row.code ≡ 2 → Three b the_row
  unfolding is_shaped is_three
  three two =
      let k : is_three the_shape ≡ true =
      rw (le-ltb the_row.code 2 (omega arith), le-ltb 31 the_row.code (omega arith), eq-eqb the_row.code 2 two) at shaped_so in
      let (first, k₁) = and_parts (is_taken the_shape.first) _ k in
      let (second, third) = and_parts (is_taken the_shape.second) _ k₁ in
      record {
        first = taken b (rows table) the_shape.first the_row.first first fitting.first;
        second = taken b (rows table) the_shape.second the_row.second second fitting.second;
        third = taken b (rows table) the_shape.third the_row.third third fitting.third;
        name = fitting.name;
      }

  both_refer : the_row.code ≡ 7 → (is_reference the_row.first.value ≡ true) × (is_reference the_row.second.value ≡ true)
  unfolding is_shaped
  both_refer seven =
      let k : (is_refer the_shape.first && is_refer the_shape.second) ≡ true =
      rw (
        le-ltb the_row.code 2 (omega arith),
        le-ltb 31 the_row.code (omega arith),
        ne_eqb the_row.code 2 (λ z. absurd (omega arith)),
        eq-eqb the_row.code 7 seven,
      ) at shaped_so in
      let (first, second) = and_parts (is_refer the_shape.first) _ k in
      (is_first_lem first, refers b (rows table) the_shape.second the_row.second second fitting.second)

  both_taken : the_row.code ≡ 25 → Taken b the_row.first × Taken b the_row.second
  unfolding is_shaped
  both_taken print =
      let k : (is_taken the_shape.first && is_taken the_shape.second) ≡ true =
      rw (
        le-ltb the_row.code 2 (omega arith),
        le-ltb 31 the_row.code (omega arith),
        ne_eqb the_row.code 2 (λ z. absurd (omega arith)),
        ne_eqb the_row.code 7 (λ z. absurd (omega arith)),
        eq-eqb the_row.code 25 print,
      ) at shaped_so in
      let (first, second) = and_parts (is_taken the_shape.first) _ k in (
        taken b (rows table) the_shape.first the_row.first first fitting.first,
        taken b (rows table) the_shape.second the_row.second second fitting.second,
      )

  two_pairs : Acts the_row.code → Two b the_row
  unfolding is_shaped is_two
  two_pairs acts =
      let low = acts.low in
      let k : is_two the_shape ≡ true =
      rw (
        le-ltb the_row.code 2 (omega arith),
        le-ltb 31 the_row.code acts.high,
        ne_eqb the_row.code 2 (λ z. absurd (omega arith)),
        ne_eqb the_row.code 7 acts.no_interchange,
        ne_eqb the_row.code 25 acts.no_print,
      ) at shaped_so in
      let (first, k₁) = and_parts (is_refer the_shape.first) _ k in
      let (second, third) = and_parts (is_taken the_shape.second) _ k₁ in
      record {
        a = is_first_lem first;
        x = taken b (rows table) the_shape.second the_row.second second fitting.second;
        a2 = refers_there b (rows table) the_shape.third the_row.third third fitting.third;
      }

  -- the row of a DO
  pub called_row : the_row.code ≡ 36 → (1 ≤ the_row.first.value) × (the_row.first.value < rows table)
  unfolding is_shaped
  called_row do-code =
      let k : is_line the_shape.first ≡ true =
      rw (
        le-ltb the_row.code 2 (omega arith),
        lt-ltb 31 the_row.code (omega arith),
        lt-ltb 33 the_row.code (omega arith),
        le-ltb the_row.code 36 (omega arith),
      ) at shaped_so in
      names_row b (rows table) the_shape.first the_row.first k fitting.first

  pub operates : {row : Row} → row ≡ row_at table r → (row.code ≡ 1 → ⊥) → Operates b row
  operates {row} e other =
      let low = fitting.low in
      let two : 2 ≤ the_row.code = not_one the_row.code low (λ one. other (rw e one)) in
      subst (Operates b) (sym e)
      (record { low = two; high = fitting.high; stack = stacked; define = three; swap = both_refer; print = both_taken; two = two_pairs })
    where
      not_one : (code : ℕ) → 1 ≤ code → (code ≡ 1 → ⊥) → 2 ≤ code
      not_one code low other = omega arith
