-- The rows of a table: ten numbers each, row r from number 10 r.
-- Document 01: "The table". Assumes nothing.
use Rattle.std.specs.Prelude.{ℕ, ◌+◌, ◌*◌, ◌/◌, ◌%◌, Bool, ◌&&◌, List, eqb, leb, length, get_or, drop}
use Rattle.table.specs.declared.Pair.{Pair}
use Rattle.table.specs.declared.Row.{Row}

-- the length is 20 to 8,000 and a multiple of ten; otherwise refusal 1
unfoldable pub length_fits : List ℕ → Bool
length_fits table = leb 20 (length table) && leb (length table) 8000 && eqb (length table % 10) 0

-- the row count
unfoldable pub rows : List ℕ → ℕ
rows table = length table / 10

-- numbers i and i + 1 of a row
unfoldable pub pair_at : List ℕ → ℕ → Pair
pair_at row i = record { form = get_or row i 0; value = get_or row (i + 1) 0 }

-- ten numbers: kind, next, code, name, then three pairs
unfoldable pub as_row : List ℕ → Row
as_row row =
    record {
      kind = get_or row 0 0;
      next = get_or row 1 0;
      code = get_or row 2 0;
      name = get_or row 3 0;
      first = pair_at row 4;
      second = pair_at row 6;
      third = pair_at row 8;
    }

-- row r
unfoldable pub row_at : List ℕ → ℕ → Row
row_at table r = as_row (drop (10 * r) table)

-- the numbers 5, 6, 7 of a line (the first is 1): first test row, first operation row, go-to
abbrev pub first_test : Row → ℕ
first_test row = row.first.form

abbrev pub first_operation : Row → ℕ
first_operation row = row.first.value

abbrev pub go_to_of : Row → ℕ
go_to_of row = row.second.form

-- the go-to DONE
abbrev pub done : ℕ
done = 65535
