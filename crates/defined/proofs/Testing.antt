-- The tests of a line on a path, and the rows that are used there, where no path uses an undefined field: no refusal 14.
-- Assumes nothing.
use Prim.Native.Nat.{ℕ, zero, suc, ◌≤◌, ◌<◌}
use native.Mathlib.Omega.{arith}
use mathlib.Core.Bool.{Bool, true, false, ◌&&◌, cond, beq}
use mathlib.Core.List.{List}
use mathlib.Core.Path.{◌≡◌, refl, ap, sym, subst, ◌∙◌}
use borrow.Author.Tests.{eqb-true, eqb-false, eq-eqb, ltb-true, leb-true}
use lib.Dec.{eqb, leb, ltb}
use Rattle.word.proofs.Tests.{and_true as and_parts}
use Rattle.table.specs.declared.Row.{Row}
use Rattle.table.specs.Operands.{shapes, test_shape, takes}
use Rattle.table.specs.Row.{rows, row_at, first_test}
use Rattle.table.specs.Table.{usable, well_formed_as, chained, shaped, is_line, is_test, fit_pairs, shape_of, largest_name}
use Rattle.table.specs.Table.{names_rows, complete, has_mode, has_tests, goes_on_of, rest_unused}
use Rattle.machine.specs.declared.Refusal.{Refusal}
use Rattle.machine.specs.declared.Refusal.TheVariants.{BadRow}
use Rattle.machine.specs.declared.Refusal.TheVariants.{UndefinedField}
use Rattle.machine.specs.Answer.{Checked, refused, passed, ◌>>◌, need, refusal_number}
use Rattle.machine.specs.Locate.{World, operand}
use Rattle.machine.specs.Test.{Made, testing, satisfied as settled, settling, settled_as}
use Rattle.machine.proofs.Checks.{clash, need_passed, bind_passed, passed_same}
use Rattle.defined.specs.Paths.{Point, test}
use Rattle.defined.specs.Paths.{next_test, Fields}
use Rattle.defined.specs.Paths.{passing, Path, along, StandsAt, at_test}
use Rattle.defined.specs.Paths.{SomeUse}
use Rattle.defined.proofs.Refers.{row_refers, first_refers, second_refers}
use Rattle.defined.proofs.Safe.{Safe, Known, other_refusal, safe_passed, safe_when, safe_bind, safe_cond}
use Rattle.defined.proofs.Safe.{operand_safe}
use Rattle.defined.proofs.Changes.{ref_form, either_form}
use Rattle.defined.proofs.Standing.{Covers}

-- a usable row: it is there, of its kind, and its numbers are those of its kind
pub usable_parts : (kind b : ℕ) (table : List ℕ) (r : ℕ) → usable kind b table r ≡ true
    → (0 < r) × (r < rows table) × ((row_at table r).kind ≡ kind) × (shaped kind b (rows table) (row_at table r) ≡ true)
unfolding usable well_formed_as
usable_parts kind b table r u =
    let row = row_at table r in
    let (there, formed) = and_parts (ltb 0 r && ltb r (rows table)) (well_formed_as kind b (rows table) r row) u in
    let (low, high) = and_parts (ltb 0 r) (ltb r (rows table)) there in
    let (front, shape) = and_parts (eqb row.kind kind && chained (rows table) r row.next) (shaped kind b (rows table) row) formed in
    (ltb-true _ _ low, ltb-true _ _ high, eqb-true _ _ (and_parts (eqb row.kind kind) (chained (rows table) r row.next) front).0, shape)

-- a line with no test is a THEN
pub then_line : (rows : ℕ) (row : Row) → is_line rows row ≡ true → first_test row ≡ 0 → row.code ≡ 0
unfolding is_line complete
then_line rows row k z =
    let (_, k₁) = and_parts (names_rows rows row) (complete row) k in
    let (_, k₂) = and_parts (has_mode row) (has_tests row && (goes_on_of row && rest_unused row)) k₁ in
    let (k₃, _) = and_parts (has_tests row) (goes_on_of row && rest_unused row) k₂ in
    go (eqb row.code 0) refl (rw (eq-eqb _ 0 z) at k₃)
  where
    go : (t : Bool) → eqb row.code 0 ≡ t → cond t true false ≡ true → row.code ≡ 0
    go true e q = eqb-true _ _ e
    go false e q = clash q

-- and is satisfied
pub then_holds : (b : ℕ) (table : List ℕ) (w : World) (count : ℕ) (holds : Bool) → settled b table w 0 count 0 ≡ passed holds → true ≡ holds
unfolding settled settled_as
then_holds b table w zero holds k = passed_same k
then_holds b table w (suc count) holds k = passed_same k

-- the name of a definition is one of 36
pub named_below : (row : Row) → row.code ≡ 2 → leb row.name (largest_name (shape_of row.code).named) ≡ true → row.name < 36
unfolding shape_of shapes
named_below row c k =
    let k₁ : leb row.name (largest_name (shape_of 2).named) ≡ true = rw c at k in
    let most : row.name ≤ 35 = leb-true _ _ k₁ in
    omega arith

pub safe_then : {A B : Type 0} (m : Checked A) (n : Checked B) → Safe m → Safe n → Safe (m >> n)
unfolding ◌>>◌
safe_then (passed x) n s t = t
safe_then (refused r) n s t = λ h. let is : r ≡ UndefinedField = cc in s (ap refused is)

pub safe_alone : (t : Bool) (r : Refusal) → eqb (refusal_number r) 14 ≡ false → Safe (need t r)
unfolding need
safe_alone true r o = safe_passed _
safe_alone false r o = other_refusal r o

module _ (table : List ℕ) (none : SomeUse table → ⊥) where
  -- what is used on a path is defined there
  pub used_defined : (p : Point) (r : ℕ) (fields : Fields) → StandsAt p r → Path table p fields → (n : ℕ) → row_refers (row_at table r) n ≡ true → fields n ≡ true
  used_defined p r fields at path n used = go (fields n) refl
    where
      go : (t : Bool) → fields n ≡ t → fields n ≡ true
      go true e = e
      go false e = absurd (none (record {
        row = r;
        name = n;
        uses = record { point = p; fields = fields; path = path; is_at = at; is_used = used; is_undefined = e };
      }))

  -- the tests of a line, from row t on
  module _ (b : ℕ) (w : World) (l : ℕ) (fields : Fields) (covers : Covers fields w.definitions) where
    test_known : (t : ℕ) → Path table (test t l) fields → Known w.definitions (row_refers (row_at table t))
    test_known t p n h = covers n (used_defined (test t l) t fields at_test p n h)

    operands_safe : (t : ℕ) → Path table (test t l) fields → usable 2 b table t ≡ true
        → Safe (operand b w (row_at table t).first) × Safe (operand b w (row_at table t).second)
    unfolding shaped is_test fit_pairs
    operands_safe t p u =
        let row = row_at table t in
        let (_, _, _, k) = usable_parts 2 b table t u in
        let (_, k₁) = and_parts (leb 1 row.code) _ k in
        let (_, k₂) = and_parts (leb row.code 7) _ k₁ in
        let (_, k₃) = and_parts (leb row.name 0) (fit_pairs b (rows table) test_shape row) k₂ in
        let (k₄, k₅) = and_parts (takes b (rows table) test_shape.first row.first) _ k₃ in
        let (k₆, _) = and_parts (takes b (rows table) test_shape.second row.second) _ k₅ in (
          operand_safe b w _ (λ _. ref_form _ k₄) (λ n h. test_known t p n (first_refers row n h)),
          operand_safe b w _ (either_form b (rows table) _ k₆)
              (λ n h. test_known t p n (second_refers row n h)),
        )

    testing_safe : (t : ℕ) → Path table (test t l) fields → Safe (testing b table w t)
    unfolding testing refusal_number
    testing_safe t p =
        safe_when _ BadRow _ refl
        (λ u. safe_bind _ _ (operands_safe t p u).0 (λ _ _. safe_bind _ _ (operands_safe t p u).1 (λ _ _. safe_passed _)))

    testing_next : (t : ℕ) (m : Made) → testing b table w t ≡ passed m → m.next ≡ (row_at table t).next
    unfolding testing
    testing_next t m k =
        let (_, k₁) = need_passed _ _ _ k in
        let (_, _, k₂) = bind_passed _ _ k₁ in
        let (_, _, k₃) = bind_passed _ _ k₂ in
        ap (λ (m : Made). m.next) (sym (passed_same k₃))

    further_test : (t : ℕ) → Path table (test t l) fields → ((row_at table t).next ≡ 0 → ⊥) → Path table (test (row_at table t).next l) fields
    unfolding passing
    further_test t path some = along path (next_test some)

    pub tests_safe : (mode count t : ℕ) → ((t ≡ 0 → ⊥) → Path table (test t l) fields) → Safe (settled b table w mode count t)
    unfolding settled
    tests_safe mode zero t p = safe_passed _
    tests_safe mode (suc count) t p =
        safe_cond (eqb t 0) _ _ (λ _. safe_passed _)
        (λ e. let path = p (eqb-false t 0 e) in
        safe_bind _ _ (testing_safe t path)
        (λ m k. safe_cond (beq m.holds (settling mode)) _ _ (λ _. safe_passed _)
        (λ _. tests_safe mode count m.next
        (λ some. subst (λ n. Path table (test n l) fields) (sym (testing_next t m k)) (further_test t path (λ z. some (testing_next t m k ∙ z)))))))
