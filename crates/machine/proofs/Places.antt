-- The places that a step goes on to are in range, since a well-formed row names rows below the row count.
-- Assumes nothing.
use Prim.Native.Nat.{ℕ, zero, suc, ◌%◌, ◌≤◌, ◌<◌}
use native.Mathlib.Omega.{arith}
use mathlib.Core.Bool.{true, false, ◌&&◌, cond}
use mathlib.Core.List.{List, [], ◌∷◌}
use mathlib.Core.Logic.{◌⊎◌, inl, inr, ⊎_elim}
use mathlib.Core.Path.{◌≡◌, refl, sym, ◌∙◌}
use borrow.Author.Tests.{ltb-true, leb-true, le-leb, eqb-true, eqb-false, eq-eqb}
use lib.Dec.{eqb, leb, ltb}
use lib.ListN.{length, take}
use Rattle.word.proofs.Tests.{and_true as and_parts}
use Rattle.table.specs.declared.Row.{Row}
use Rattle.table.specs.Row.{length_fits, rows, row_at, first_test, first_operation, go_to_of, done}
use Rattle.table.specs.Operands.{shapes, takes, is_literal}
use Rattle.table.specs.Table.{chained, row_or_none, names_rows, complete, is_line, shape_of, is_operation, fit_pairs, fits, shaped}
use Rattle.table.specs.Table.{well_formed_as, usable}
use Rattle.machine.specs.declared.Place.{Place}
use Rattle.machine.specs.State.{tests_of, operation_at, exit_of, the_end, is_finished}
use Rattle.machine.specs.Sound.{every, is_row, is_place, sound_place}
use Rattle.machine.specs.Step.{next_line, operation_or_exit}
use Rattle.machine.proofs.Checks.{and_true, or_parts, clash}
use Rattle.machine.proofs.Every.{every_none, every_cons, every_parts}
use Rattle.machine.proofs.Facts.{StackFacts}

-- a row below the row count, or none
abbrev pub RowOrNone : ℕ → Type 0
RowOrNone r = (r ≡ 0) ⊎ (is_row r ≡ true)

pub is_row_lem : (r : ℕ) → 0 < r → r < 800 → is_row r ≡ true
unfolding is_row
is_row_lem r h k = and_true (le-leb 1 r (omega arith)) (le-leb r 799 (omega arith))

-- a place of each kind
pub tests_place : (r : ℕ) → is_row r ≡ true → is_place (tests_of r) ≡ true
unfolding is_place tests_of
tests_place r h = and_true h refl

pub exit_place : (r : ℕ) → is_row r ≡ true → is_place (exit_of r) ≡ true
unfolding is_place exit_of
exit_place r h = and_true h refl

pub operation_place : (r line : ℕ) → is_row r ≡ true → is_row line ≡ true → is_place (operation_at r line) ≡ true
unfolding is_place operation_at
operation_place r line h k = and_true k h

-- a place in range is a sound one, and so is the end
pub place_sound : (p : Place) → is_place p ≡ true → sound_place p ≡ true
unfolding sound_place
place_sound p h = rw h

pub end_sound : sound_place the_end ≡ true
unfolding sound_place is_place the_end is_finished is_row
end_sound = refl

-- a sound place that is not the end is in range, and its line is a row
pub place_there : (p : Place) → sound_place p ≡ true → is_finished p ≡ false → is_place p ≡ true
unfolding sound_place
place_there p h f =
    ⊎_elim (λ k. k)
    (λ k.
    let k₁ = (and_parts (is_finished p && eqb p.row 0) (eqb p.line 0) k).0 in
    clash (sym f ∙ (and_parts (is_finished p) (eqb p.row 0) k₁).0))
    (or_parts (is_place p) (is_finished p && eqb p.row 0 && eqb p.line 0) h)

pub place_line : (p : Place) → is_place p ≡ true → is_row p.line ≡ true
unfolding is_place
place_line p h = (and_parts (is_row p.line) _ h).0

-- the next line or the end
pub next_sound : (r : ℕ) → RowOrNone r → sound_place (next_line r) ≡ true
unfolding next_line
next_sound r (inl e) = rw (eq-eqb r 0 e) end_sound
next_sound r (inr h) =
    elim (eqb r 0) as (λ t. sound_place (cond t the_end (tests_of r)) ≡ true)
    [ true ↦ end_sound | false ↦ place_sound (tests_of r) (tests_place r h) ]

-- an operation or the exit
pub operation_or_exit_lem : (r line : ℕ) → RowOrNone r → is_row line ≡ true → is_place (operation_or_exit r line) ≡ true
unfolding operation_or_exit
operation_or_exit_lem r line (inl e) k = rw (eq-eqb r 0 e) (exit_place line k)
operation_or_exit_lem r line (inr h) k =
    elim (eqb r 0) as (λ t. is_place (cond t (exit_of line) (operation_at r line)) ≡ true)
    [ true ↦ exit_place line k | false ↦ operation_place r line h k ]

-- each used place of a stack is a sound one
pub stack_sound : (count : ℕ) (entries : List Place) → StackFacts is_place count entries → StackFacts sound_place count entries
stack_sound count entries h = record { few = h.few; used = weaken (take count entries) h.used }
  where
    weaken : (ps : List Place) → every is_place ps ≡ true → every sound_place ps ≡ true
    weaken [] k = every_none sound_place
    weaken (p ∷ ps) k =
        every_cons sound_place p ps (place_sound p (every_parts is_place p ps k).0) (weaken ps (every_parts is_place p ps k).1)

-- a table has at most 800 rows
pub rows_few : (table : List ℕ) → length_fits table ≡ true → rows table ≤ 800
unfolding length_fits rows
rows_few table h =
    let few = leb-true (length table) 8000 (and_parts (leb 20 (length table)) (leb (length table) 8000) (and_parts _ (eqb (length table % 10) 0) h).0).1 in
    omega arith

module _ (b : ℕ) (table : List ℕ) (r : ℕ) (l : length_fits table ≡ true) where
  -- a row number below the row count
  row_or_none_lem : (n : ℕ) → ((n ≡ 0 → ⊥) → n < rows table) → RowOrNone n
  row_or_none_lem n k =
      elim (eqb n 0) as (λ t. eqb n 0 ≡ t → RowOrNone n) [
        | true ↦ λ e. inl (eqb-true n 0 e)
        | false ↦ λ e.
            let few = rows_few table l in
            let less = k (eqb-false n 0 e) in
            let pos : (n ≡ 0 → ⊥) = eqb-false n 0 e in
            inr (is_row_lem n (positive n pos) (omega arith))
      ] refl
    where
      positive : (n : ℕ) → (n ≡ 0 → ⊥) → 0 < n
      positive zero p = absurd (p refl)
      positive (suc n) p = omega arith

  -- a test that a row number is zero or below the row count
  tested_row : (n : ℕ) → row_or_none (rows table) n ≡ true → RowOrNone n
  tested_row n k = row_or_none_lem n (λ p. ⊎_elim (λ e. absurd (p (eqb-true n 0 e))) (λ q. ltb-true n (rows table) q) (or_parts (eqb n 0) (ltb n (rows table)) k))

  -- next names a row or none
  chained_row : (n : ℕ) → chained (rows table) r n ≡ true → RowOrNone n
  chained_row n k =
      row_or_none_lem n
      (λ p. ⊎_elim (λ e. absurd (p (eqb-true n 0 e)))
      (λ q. ltb-true n (rows table) (and_parts (ltb r n) (ltb n (rows table)) q).1) (or_parts (eqb n 0) (ltb r n && ltb n (rows table)) k))

  -- a usable row is chained, and its numbers are those of its kind
  chained_shaped : (kind : ℕ) → usable kind b table r ≡ true
      → (chained (rows table) r (row_at table r).next ≡ true) × (shaped kind b (rows table) (row_at table r) ≡ true)
  unfolding usable well_formed_as
  chained_shaped kind u =
      let row = row_at table r in
      let parts = and_parts (eqb row.kind kind && chained (rows table) r row.next) (shaped kind b (rows table) row)
      (and_parts (ltb 0 r && ltb r (rows table)) (well_formed_as kind b (rows table) r row) u).1 in
      ((and_parts (eqb row.kind kind) (chained (rows table) r row.next) parts.0).1, parts.1)

  pub next_row : (kind : ℕ) → usable kind b table r ≡ true → RowOrNone (row_at table r).next
  next_row kind u = chained_row _ (chained_shaped kind u).0

  -- the row that a DO names
  do_line_row : (row : Row) → row.code ≡ 36 → is_operation b (rows table) row ≡ true → is_row row.first.value ≡ true
  unfolding is_operation fit_pairs shape_of shapes
  do_line_row row c k =
      let s = shape_of row.code in
      let k₁ = (and_parts (leb row.code 36) (fits b (rows table) s row) (and_parts (leb 1 row.code) _ k).1).1 in
      let k₂ = (and_parts (leb row.name _) (fit_pairs b (rows table) s row) k₁).1 in
      let k₃ = (and_parts (takes b (rows table) s.first row.first) _ k₂).0 in
      let k₄ : takes b (rows table) (shape_of 36).first row.first ≡ true = rw c at k₃ in
      let k₅ = and_parts (leb 1 row.first.value) (ltb row.first.value (rows table)) (and_parts (is_literal b row.first) _ k₄).1 in
      let low : 1 ≤ row.first.value = leb-true _ _ k₅.0 in
      let high : row.first.value < rows table = ltb-true _ _ k₅.1 in
      let few = rows_few table l in
      is_row_lem row.first.value (omega arith) (omega arith)

  pub do_row : usable 3 b table r ≡ true → (row_at table r).code ≡ 36 → sound_place (tests_of (row_at table r).first.value) ≡ true
  unfolding shaped
  do_row u c = place_sound _ (tests_place _ (do_line_row (row_at table r) c (chained_shaped 3 u).1))

  -- an operation's code is 1 or more
  pub has_code : usable 3 b table r ≡ true → 1 ≤ (row_at table r).code
  unfolding shaped is_operation
  has_code u = leb-true 1 (row_at table r).code (and_parts (leb 1 (row_at table r).code) _ (chained_shaped 3 u).1).0

  -- a line's first operation and go-to
  pub line_operation : usable 1 b table r ≡ true → RowOrNone (first_operation (row_at table r))
  unfolding shaped is_line names_rows
  line_operation u =
      let row = row_at table r in
      let k = (and_parts (names_rows (rows table) row) (complete row) (chained_shaped 1 u).1).0 in
      let k₁ = (and_parts (row_or_none (rows table) (first_test row)) _ k).1 in
      tested_row _ (and_parts (row_or_none (rows table) (first_operation row)) _ k₁).0

  pub line_goes : usable 1 b table r ≡ true → (go_to_of (row_at table r) ≡ done → ⊥) → RowOrNone (go_to_of (row_at table r))
  unfolding shaped is_line names_rows
  line_goes u p =
      let row = row_at table r in
      let k = (and_parts (names_rows (rows table) row) (complete row) (chained_shaped 1 u).1).0 in
      let k₁ = (and_parts (row_or_none (rows table) (first_test row)) _ k).1 in
      let k₂ = (and_parts (row_or_none (rows table) (first_operation row)) _ k₁).1 in
      tested_row _
      (⊎_elim (λ q. q) (λ q. absurd (p (eqb-true (go_to_of row) done q)))
      (or_parts (row_or_none (rows table) (go_to_of row)) (eqb (go_to_of row) done) k₂))
