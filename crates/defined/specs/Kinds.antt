-- What refusal 30 asks of a table that passes the table check: the rows that rows name are of the right kind.
-- Document 02: ticket 8. Assumes nothing.
use Rattle.std.specs.Prelude.{ℕ, zero, suc, ◌-◌, Bool, true, not, ◌&&◌, ◌||◌, cond, List, eqb}
use Rattle.table.specs.declared.Row.{Row}
use Rattle.table.specs.Row.{rows, row_at, first_test, first_operation, go_to_of, done}

-- row r is of this kind: 1 a line, 2 a test, 3 an operation
unfoldable pub is_kind : List ℕ → ℕ → ℕ → Bool
is_kind table kind r = eqb (row_at table r).kind kind

-- a number of a row that names a row of this kind, or none
unfoldable pub names_kind : List ℕ → ℕ → ℕ → Bool
names_kind table kind r = eqb r 0 || is_kind table kind r

-- a line's first test row is a test, its first operation row an operation, and its go-to, where it is not DONE, a line
unfoldable pub line_names : List ℕ → Row → Bool
line_names table row =
    names_kind table 2 (first_test row)
    && (names_kind table 3 (first_operation row) && (eqb (go_to_of row) done || names_kind table 1 (go_to_of row)))

-- 36 DO names a line
unfoldable pub operation_names : List ℕ → Row → Bool
operation_names table row = not (eqb row.code 36) || is_kind table 1 row.first.value

-- a row's next is of its own kind, and the other rows that it names are of the right one
unfoldable pub row_names : List ℕ → Row → Bool
row_names table row =
    names_kind table row.kind row.next
    && cond (eqb row.kind 1) (line_names table row) (cond (eqb row.kind 3) (operation_names table row) true)

-- the lowest of count rows, from row r on, that names a row of another kind than it should, 0 if there is none
unfoldable pub lowest_wrong : List ℕ → ℕ → ℕ → ℕ
lowest_wrong table r zero = 0
lowest_wrong table r (suc count) = cond (row_names table (row_at table r)) (lowest_wrong table (suc r) count) r

-- refusal 30: row 1 where it is no line, otherwise the lowest row that names one of the wrong kind, reached or not; 0 if none
unfoldable pub wrong_row : List ℕ → ℕ
wrong_row table = cond (is_kind table 1 1) (lowest_wrong table 1 (rows table - 1)) 1
