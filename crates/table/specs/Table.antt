-- Well-formed rows, and the table check.
-- Document 01: "The table" and, for the check, the order of refusals. Assumes nothing.
use Rattle.std.specs.Prelude.{ℕ, zero, suc, ◌-◌, Bool, not, ◌&&◌, ◌||◌, cond, List, eqb, leb, ltb, get_or, Result, Ok, Err}
use Rattle.word.specs.Word.{is_width}
use Rattle.word.specs.Told.{Told, gives, refuses}
use Rattle.table.specs.declared.Row.{Row}
use Rattle.table.specs.declared.TableError.{TableError}
use Rattle.table.specs.declared.TableError.TheVariants.{BadLength, NoWidth}
use Rattle.table.specs.Row.{rows, row_at, length_fits, first_test, first_operation, go_to_of, done}
use Rattle.table.specs.declared.Operand.TheVariants.{Absent}
use Rattle.table.specs.declared.Shape.{Shape}
use Rattle.table.specs.Operands.{shape, shapes, test_shape, takes, is_absent}

-- next is zero, or exceeds its own row and is below the row count
abbrev pub chained : ℕ → ℕ → ℕ → Bool
chained rows r next = eqb next 0 || (ltb r next && ltb next rows)

-- the pairs are what the shape says
unfoldable pub fit_pairs : ℕ → ℕ → Shape → Row → Bool
fit_pairs b rows s row =
    takes b rows s.first row.first && (takes b rows s.second row.second && takes b rows s.third row.third)

-- and the name is 0-35 where there is one and otherwise zero
abbrev pub largest_name : Bool → ℕ
largest_name named = cond named 35 0

abbrev pub fits : ℕ → ℕ → Shape → Row → Bool
fits b rows s row = leb row.name (largest_name s.named) && fit_pairs b rows s row

-- a row number of a line is zero or below the row count
abbrev pub row_or_none : ℕ → ℕ → Bool
row_or_none rows r = eqb r 0 || ltb r rows

-- a line's first test row, first operation row and go-to, which may be DONE
unfoldable pub names_rows : ℕ → Row → Bool
names_rows rows row =
    row_or_none rows (first_test row)
    && (row_or_none rows (first_operation row) && (row_or_none rows (go_to_of row) || eqb (go_to_of row) done))

-- codes 0 THEN, 1 IFALL, 2 IFANY, 3 IFNONE, 4 IFNALL, and no name
abbrev pub has_mode : Row → Bool
has_mode row = leb row.code 4 && eqb row.name 0

-- THEN has no test, the others have one or more
abbrev pub has_tests : Row → Bool
has_tests row = cond (eqb row.code 0) (eqb (first_test row) 0) (not (eqb (first_test row) 0))

-- without operations a go-to is needed
abbrev pub goes_on_of : Row → Bool
goes_on_of row = not (eqb (first_operation row) 0 && eqb (go_to_of row) 0)

-- unused numbers are zero
abbrev pub rest_unused : Row → Bool
rest_unused row = eqb row.second.value 0 && is_absent row.third

unfoldable pub complete : Row → Bool
complete row = has_mode row && (has_tests row && (goes_on_of row && rest_unused row))

-- kind 1, a line
unfoldable pub is_line : ℕ → Row → Bool
is_line rows row = names_rows rows row && complete row

-- kind 2, a test: codes 1 to 7
unfoldable pub is_test : ℕ → ℕ → Row → Bool
is_test b rows row = leb 1 row.code && (leb row.code 7 && fits b rows test_shape row)

-- kind 3, an operation: codes 1 to 36
unfoldable pub shape_of : ℕ → Shape
shape_of code = get_or shapes (code - 1) (shape Absent Absent Absent)

unfoldable pub is_operation : ℕ → ℕ → Row → Bool
is_operation b rows row = leb 1 row.code && (leb row.code 36 && fits b rows (shape_of row.code) row)

-- the row's own numbers are those of its kind
unfoldable pub shaped : ℕ → ℕ → ℕ → Row → Bool
shaped kind b rows row = cond (eqb kind 1) (is_line rows row) (cond (eqb kind 2) (is_test b rows row) (is_operation b rows row))

-- row r is a well-formed row of this kind
unfoldable pub well_formed_as : ℕ → ℕ → ℕ → ℕ → Row → Bool
well_formed_as kind b rows r row = eqb row.kind kind && chained rows r row.next && shaped kind b rows row

-- row r is well-formed
unfoldable pub well_formed : ℕ → ℕ → ℕ → Row → Bool
well_formed b rows r row = well_formed_as 1 b rows r row || well_formed_as 2 b rows r row || well_formed_as 3 b rows r row

-- a place or a line can use row r as this kind: it is there, well-formed and of this kind; otherwise refusal 2
unfoldable pub usable : ℕ → ℕ → List ℕ → ℕ → Bool
usable kind b table r = ltb 0 r && ltb r (rows table) && well_formed_as kind b (rows table) r (row_at table r)

-- the lowest ill-formed row of count rows from row r on, 0 if none is
unfoldable pub lowest_from : ℕ → List ℕ → ℕ → ℕ → ℕ
lowest_from b table r zero = 0
lowest_from b table r (suc count) =
    let others = lowest_from b table (suc r) count in
    cond (well_formed b (rows table) r (row_at table r)) others r

-- the table check of words of b bits: the lowest ill-formed row, 0 if none; row 0 is not read, and it refuses only by 1
unfoldable pub checked : ℕ → List ℕ → Result ℕ TableError
checked b table = cond (length_fits table) (Ok (lowest_from b table 1 (rows table - 1))) (Err BadLength)

-- the check at a width that a host gives: 31, before anything else, where that is none (ticket 9)
unfoldable pub table_checked : ℕ → List ℕ → Result ℕ TableError
table_checked b table = cond (is_width b) (checked b table) (Err NoWidth)

-- its answer in numbers: the row, or the refusal
unfoldable pub told_check : Result ℕ TableError → Told ℕ
told_check (Ok r) = gives r
told_check (Err BadLength) = refuses 1
told_check (Err NoWidth) = refuses 31

-- what the check tells, in the order 31, 1, the row
unfoldable pub check_told : ℕ → List ℕ → Told ℕ
check_told b table =
    cond (is_width b) (cond (length_fits table) (gives (lowest_from b table 1 (rows table - 1))) (refuses 1)) (refuses 31)
