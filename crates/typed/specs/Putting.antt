-- Rows put into a table one after the other, and what the contracts of the writing pass name besides. Assumes nothing.
use Rattle.std.specs.Prelude.{ℕ, ◌+◌, ◌*◌, ◌≤◌, ◌≡◌, Bool, true, cond, List, [], ◌∷◌, ◌++◌, map, length, take, drop}
use Rattle.std.proofs.Math.Option.{Option, none, some}
use Rattle.table.specs.declared.Row.{Row}
use Rattle.lines.specs.Words.{all, field_pair, absent_pair}
use Rattle.lines.specs.Forms.{is_test, is_operation}
use Rattle.lines.specs.Grammar.{Line, Typed}
use Rattle.lines.specs.Reading.{cut, read_line}
use Rattle.word.specs.Told.{Told}
use Rattle.lines.specs.Program.{size, row_count, chained_rows, test_row, operation_row, line_row, flat}
use Rattle.lines.specs.Program.{refusal_of, program, refusal_told}
use Rattle.faults.specs.Places.{lines_in}
use Rattle.faults.specs.declared.Scan.{Scan}
use Rattle.faults.specs.Checking.{parens_in, tests_at, operations_at, Placed}
use Rattle.typed.specs.declared.Group.{Group}

-- what the reading of a text tells, apart from its width: the refusal of the lowest line with a fault, or the row count
abbrev pub reading_told : ℕ → List ℕ → List ℕ → Told ℕ
reading_told b text lent = refusal_told (refusal_of b (length lent) text) (row_count (program b text))

-- numbers put into a list from a place on
unfoldable pub put_at : ℕ → List ℕ → List ℕ → List ℕ
put_at n xs table = take n table ++ (xs ++ drop (n + length xs) table)

-- rows put into a table from row r on
unfoldable pub put_rows : ℕ → List Row → List ℕ → List ℕ
put_rows r rows table = put_at (10 * r) (flat rows) table

-- the row of (a, Δ), which stands for (a, P, aΔ)
unfoldable pub moved_row : ℕ → List ℕ → List ℕ → Row
moved_row next a names =
    record { kind = 3; next = next; code = 6; name = 0; first = field_pair a; second = field_pair (a ++ names); third = absent_pair }

-- a test or an operation, and its row
unfoldable pub is_group : ℕ → Bool → List (List ℕ) → Bool
is_group b tests args = cond tests (is_test b args) (is_operation b args)

unfoldable pub group_row : ℕ → (List ℕ → ℕ) → Bool → ℕ → List (List ℕ) → Row
group_row b at tests next args = cond tests (test_row b at next args) (operation_row b at next args)

-- the rows of a group of parentheses, and of a line
unfoldable pub group_rows : ℕ → (List ℕ → ℕ) → List ℕ → Group → List Row
group_rows b at s g = chained_rows (group_row b at g.tests) g.row (parens_in g.count (drop g.from s))

unfoldable pub line_rows : ℕ → (List ℕ → ℕ) → ℕ → ℕ → Line → List Row
line_rows b at r next l =
    line_row b at r next l
    ∷ (chained_rows (test_row b at) (r + 1) l.tests ++ chained_rows (operation_row b at) (r + 1 + length l.tests) l.operations)

-- a group of tests or operations inside a line, for whose rows there is room
pub record Grouped (b : ℕ) (s : List ℕ) (g : Group) (table : List ℕ) : Type 0 where
  pub whole : length (parens_in g.count (drop g.from s)) ≡ g.count
  pub proper : all (is_group b g.tests) (parens_in g.count (drop g.from s)) ≡ true
  pub room : 10 * (g.row + g.count) ≤ length table

-- the places of a line that keeps the grammar
pub record Laid (b : ℕ) (s : List ℕ) (c : Scan) : Type 0 where
  pub placed : Placed s c
  pub tests : all (is_test b) (tests_at s c) ≡ true
  pub operations : all (is_operation b) (operations_at s c) ≡ true

-- the rows of a line, none where it breaks the grammar; the last line has no next one
unfoldable pub read_rows : ℕ → (List ℕ → ℕ) → ℕ → Bool → Option Line → List Row
read_rows b at r last none = []
read_rows b at r last (some l) = line_rows b at r (cond last 0 (r + size l)) l

-- the row of a line by its numbers, and row 0
abbrev pub line_numbers : ℕ → ℕ → ℕ → ℕ → ℕ → Row
line_numbers next mode tests operations go_to_of =
    record {
      kind = 1;
      next = next;
      code = mode;
      name = 0;
      first = record { form = tests; value = operations };
      second = record { form = go_to_of; value = 0 };
      third = absent_pair;
    }

abbrev pub zero_row : Row
zero_row = record { kind = 0; next = 0; code = 0; name = 0; first = absent_pair; second = absent_pair; third = absent_pair }

-- a text each of whose lines keeps the grammar, for whose rows there is room
pub record Roomy (b : ℕ) (text table : List ℕ) : Type 0 where
  pub lines : List Typed
  pub good : map (read_line b) (cut text) ≡ map some lines
  pub room : 10 * row_count (lines_in b text) ≤ length table
