-- A row's tests put together from their parts, as the code makes them.
-- Assumes nothing.
use Prim.Native.Nat.{ℕ, suc, ◌-◌, ◌/◌, ◌≤◌, ◌<◌}
use native.Mathlib.Omega.{arith}
use mathlib.Core.Bool.{Bool, beq, true, false, not, ◌&&◌, cond}
use mathlib.Core.Path.{◌≡◌, refl, ap, sym, ◌∙◌}
use borrow.Author.Tests.{le-leb, lt-leb, lt-ltb, le-ltb, eq-eqb, ne_eqb}
use mathlib.Core.List.{List}
use lib.Dec.{leb}
use lib.ListN.{length}
use Rattle.word.specs.Word.{is_width}
use Rattle.table.specs.declared.Row.{Row}
use Rattle.table.specs.declared.Shape.{Shape}
use Rattle.std.specs.Prelude.{Result, Ok, Err}
use Rattle.table.specs.declared.TableError.{TableError}
use Rattle.table.specs.declared.TableError.TheVariants.{BadLength, NoWidth}
use Rattle.table.specs.declared.Operand.{Operand}
use Rattle.table.specs.declared.Pair.{Pair}
use Rattle.table.specs.Operands.{test_shape, takes}
use Rattle.word.specs.Told.{gives, refuses}
use Rattle.table.specs.Table.{fits, is_line, is_test, shape_of, is_operation, chained, shaped, well_formed_as, well_formed, usable}
use Rattle.table.specs.Table.{lowest_from, checked, table_checked, told_check, check_told}
use Rattle.table.specs.Row.{length_fits, rows, row_at}

-- a pair's test is the definition's at the operand that is told
pub takes_at : (b rows : ℕ) (p : Pair) {x y : Operand} {t : Bool} → x ≡ y → t ≡ takes b rows y p → t ≡ takes b rows x p
takes_at b rows p e h = h ∙ ap (λ (z : Operand). takes b rows z p) (sym e)

-- two tests that come to the same
pub same_tests : (x y : Bool) → beq x y ≡ cond x y (not y)
same_tests true true = refl
same_tests true false = refl
same_tests false true = refl
same_tests false false = refl

-- a test
pub test_from : (b rows : ℕ) (row : Row) {s : Shape} {fit : Bool} → s ≡ test_shape → fit ≡ fits b rows s row
    → (leb 1 row.code && (leb row.code 7 && fit)) ≡ is_test b rows row
unfolding is_test
test_from b rows row s f = ap (λ (t : Bool). leb 1 row.code && (leb row.code 7 && t)) (f ∙ ap (λ (s : Shape). fits b rows s row) s)

-- an operation: its code is out of range, or its pairs fit
pub operation_small : (b rows : ℕ) (row : Row) → row.code < 1 → false ≡ is_operation b rows row
unfolding is_operation
operation_small b rows row h = rw (lt-leb _ _ h)

pub operation_large : (b rows : ℕ) (row : Row) → 1 ≤ row.code → 36 < row.code → false ≡ is_operation b rows row
unfolding is_operation
operation_large b rows row l h = rw (le-leb _ _ l, lt-leb _ _ h)

pub operation_from : (b rows : ℕ) (row : Row) {s : Shape} {fit : Bool} → 1 ≤ row.code → row.code ≤ 36 → s ≡ shape_of row.code
    → fit ≡ fits b rows s row → fit ≡ is_operation b rows row
unfolding is_operation
operation_from b rows row l h s f = rw (le-leb _ _ l, le-leb _ _ h) (f ∙ ap (λ (s : Shape). fits b rows s row) s)

-- a row by its kind
pub shaped_line : (b rows : ℕ) (row : Row) (kind : ℕ) {t : Bool} → kind ≡ 1 → t ≡ is_line rows row → t ≡ shaped kind b rows row
unfolding shaped
shaped_line b rows row kind k t = rw (eq-eqb kind 1 k) t

pub shaped_test : (b rows : ℕ) (row : Row) (kind : ℕ) {t : Bool} → (kind ≡ 1 → ⊥) → kind ≡ 2 → t ≡ is_test b rows row → t ≡ shaped kind b rows row
unfolding shaped
shaped_test b rows row kind n k t = rw (ne_eqb kind 1 n, eq-eqb kind 2 k) t

pub shaped_operation : (b rows : ℕ) (row : Row) (kind : ℕ) {t : Bool} → (kind ≡ 1 → ⊥) → (kind ≡ 2 → ⊥) → t ≡ is_operation b rows row
    → t ≡ shaped kind b rows row
unfolding shaped
shaped_operation b rows row kind n m t = rw (ne_eqb kind 1 n, ne_eqb kind 2 m) t

-- a well-formed row: of another kind, not chained, or as its numbers are
pub other_kind : (kind b rows r : ℕ) (row : Row) → (row.kind ≡ kind → ⊥) → false ≡ well_formed_as kind b rows r row
unfolding well_formed_as
other_kind kind b rows r row n = rw (ne_eqb _ _ n)

pub not_chained : (kind b rows r : ℕ) (row : Row) → row.kind ≡ kind → chained rows r row.next ≡ false → false ≡ well_formed_as kind b rows r row
unfolding well_formed_as
not_chained kind b rows r row k n = rw (eq-eqb _ _ k, n)

pub formed_from_lem : (kind b rows r : ℕ) (row : Row) {t : Bool} → row.kind ≡ kind → chained rows r row.next ≡ true → t ≡ shaped kind b rows row
    → t ≡ well_formed_as kind b rows r row
unfolding well_formed_as
formed_from_lem kind b rows r row k c t = rw (eq-eqb _ _ k, c) t

-- a row that is used: missing below or above, or as it is formed
pub missing_low : (kind b : ℕ) (table : List ℕ) (r : ℕ) → r < 1 → false ≡ usable kind b table r
unfolding usable
missing_low kind b table r h = rw (le-ltb 0 r (omega arith))

pub missing_high : (kind b : ℕ) (table : List ℕ) (r : ℕ) → 1 ≤ r → length table / 10 ≤ r → false ≡ usable kind b table r
unfolding usable rows
missing_high kind b table r l h = rw (lt-ltb 0 r l, le-ltb r (length table / 10) h)

pub used_row : (kind b : ℕ) (table : List ℕ) (r : ℕ) {row : Row} {t : Bool} → 1 ≤ r → r < length table / 10 → row ≡ row_at table r
    → t ≡ well_formed_as kind b (length table / 10) r row → t ≡ usable kind b table r
unfolding usable rows
used_row kind b table r l h row t =
    rw (lt-ltb 0 r l, lt-ltb r (length table / 10) h) (t ∙ ap (λ (x : Row). well_formed_as kind b (length table / 10) r x) row)

-- the lowest ill-formed row from row r on: this one, or one after it
module _ (b : ℕ) (table : List ℕ) (r : ℕ) (inside : r < length table / 10) where
  more_rows : length table / 10 - r ≡ suc (length table / 10 - suc r)
  more_rows = omega arith

  pub lowest_here : well_formed b (length table / 10) r (row_at table r) ≡ false → r ≡ lowest_from b table r (length table / 10 - r)
  unfolding lowest_from rows
  lowest_here f = rw (more_rows, lowest_from, f)

  pub lowest_later : well_formed b (length table / 10) r (row_at table r) ≡ true
      → lowest_from b table r (length table / 10 - r) ≡ lowest_from b table (suc r) (length table / 10 - suc r)
  unfolding lowest_from rows
  lowest_later t = rw (more_rows, lowest_from, t)

pub lowest_none : (b : ℕ) (table : List ℕ) (r : ℕ) → length table / 10 ≤ r → 0 ≡ lowest_from b table r (length table / 10 - r)
unfolding lowest_from
lowest_none b table r h = let none : length table / 10 - r ≡ 0 = omega arith in rw none

-- the check of a table of a fitting length, and of another
pub checked_rows : (b : ℕ) (table : List ℕ) {fits : Bool} {n : ℕ} → fits ≡ length_fits table → fits ≡ true → n ≡ lowest_from b table 1 (rows table - 1)
    → Ok n ≡ checked b table
unfolding checked
checked_rows b table f t n = rw (sym f ∙ t, sym n) refl

pub checked_length : (b : ℕ) (table : List ℕ) {fits : Bool} → fits ≡ length_fits table → fits ≡ false → Err BadLength ≡ checked b table
unfolding checked
checked_length b table f t = rw (sym f ∙ t)

-- the check at a width, by that width
pub check_no_width : (b : ℕ) (table : List ℕ) → is_width b ≡ false → Err NoWidth ≡ table_checked b table
unfolding table_checked
check_no_width b table w = rw w

pub check_at_width : (b : ℕ) (table : List ℕ) → is_width b ≡ true → {x : Result ℕ TableError} → x ≡ checked b table → x ≡ table_checked b table
unfolding table_checked
check_at_width b table w is = rw w is

-- its answer in the papers' numbers
pub check_numbers : (b : ℕ) (table : List ℕ) {x : Result ℕ TableError} → x ≡ table_checked b table
    → (x ≡ table_checked b table) × (told_check x ≡ check_told b table)
unfolding table_checked checked told_check check_told
check_numbers b table {x} is = (is, ap told_check is ∙ by_width (is_width b) (length_fits table))
  where
    n : ℕ
    n = lowest_from b table 1 (rows table - 1)

    by_width : (w t : Bool) → told_check (cond w (cond t (Ok n) (Err BadLength)) (Err NoWidth)) ≡ cond w (cond t (gives n) (refuses 1)) (refuses 31)
    by_width true true = refl
    by_width true false = refl
    by_width false t = refl
