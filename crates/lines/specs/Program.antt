-- What a text of typed lines becomes: rows, labels, the faults of its lines, the answer and the lent table. Document 02, tickets 3
-- and 9. Assumes nothing.
use Rattle.std.specs.Prelude.{ℕ, suc, ◌+◌, ◌*◌, Bool, not, ◌&&◌, ◌||◌, cond, List, [], ◌∷◌, ◌++◌, eqb, leb, length, drop, replicate}
use Rattle.std.specs.Prelude.{Result, Ok, Err}
use Rattle.std.proofs.Math.Option.{Option, none, some}
use Rattle.word.specs.Word.{is_width}
use Rattle.word.specs.Told.{Told, tells, gives, refuses}
use Rattle.table.specs.declared.Row.{Row}
use Rattle.table.specs.Row.{done}
use Rattle.lines.specs.declared.ReadError.{ReadError}
use Rattle.lines.specs.declared.ReadError.TheVariants.{NoWidth, BadLine, BadLabel, TooLong}
use Rattle.lines.specs.Words.{same, is_empty, any, is_done, absent_pair}
use Rattle.lines.specs.Forms.{test_forms, operation_forms, expanded, form_of, symbols_in, row_in}
use Rattle.lines.specs.Grammar.{Line, Typed}
use Rattle.lines.specs.Reading.{read_lines}

-- the rows of a line: its own, one for each test, one for each operation
unfoldable pub size : Line → ℕ
size l = 1 + length l.tests + length l.operations

-- the row of the first line that declares a label, lines given rows from r on; 0 where none does
unfoldable pub row_of : ℕ → List Line → List ℕ → ℕ
row_of r [] w = 0
row_of r (l ∷ ls) w = cond (same w l.label) r (row_of (r + size l) ls w)

-- chained rows of a kind from r on: each has the next row, the last zero
unfoldable pub chained_rows : (ℕ → List (List ℕ) → Row) → ℕ → List (List (List ℕ)) → List Row
chained_rows make r [] = []
chained_rows make r (x ∷ xs) = make (cond (is_empty xs) 0 (suc r)) x ∷ chained_rows make (suc r) xs

module _ (b : ℕ) (at : List ℕ → ℕ) where
  unfoldable pub test_row : ℕ → List (List ℕ) → Row
  test_row next args = row_in at 2 next (form_of b args test_forms) args

  unfoldable pub operation_row : ℕ → List (List ℕ) → Row
  operation_row next args = row_in at 3 next (form_of b (expanded args) operation_forms) (expanded args)

  -- the go-to: none, DONE or the label's row
  unfoldable pub go_to_row : List ℕ → ℕ
  go_to_row w = cond (is_empty w) 0 (cond (is_done w) done (at w))

  -- a line's row r: the next line's row, the first test's, the first operation's
  unfoldable pub line_row : ℕ → ℕ → Line → Row
  line_row r next l =
      record {
        kind = 1;
        next = next;
        code = l.mode;
        name = 0;
        first = record {
          form = cond (is_empty l.tests) 0 (r + 1);
          value = cond (is_empty l.operations) 0 (r + 1 + length l.tests);
        };
        second = record { form = go_to_row l.go_to_of; value = 0 };
        third = absent_pair;
      }

  -- lines from row r on: each line's row before its tests and those before its operations
  unfoldable pub rows_from : ℕ → List Line → List Row
  rows_from r [] = []
  rows_from r (l ∷ ls) =
      line_row r (cond (is_empty ls) 0 (r + size l)) l
      ∷ (chained_rows test_row (r + 1) l.tests
      ++ (chained_rows operation_row (r + 1 + length l.tests) l.operations ++ rows_from (r + size l) ls))

-- the ten numbers of a row
unfoldable pub numbers_of : Row → List ℕ
numbers_of row =
    row.kind ∷ row.next ∷ row.code ∷ row.name ∷ row.first.form ∷ row.first.value ∷ row.second.form ∷ row.second.value
    ∷ row.third.form ∷ row.third.value ∷ []

unfoldable pub flat : List Row → List ℕ
flat [] = []
flat (row ∷ rows) = numbers_of row ++ flat rows

-- row 0 as zeros, then rows from 1 on
unfoldable pub table_of : ℕ → List Line → List ℕ
table_of b ls = replicate 10 0 ++ flat (rows_from b (row_of 1 ls) 1 ls)

-- the row count, row 0 with it
unfoldable pub row_count : List Line → ℕ
row_count [] = 1
row_count (l ∷ ls) = size l + row_count ls

-- the lines that keep the grammar
unfoldable pub kept_lines : List (Option Typed) → List Line
kept_lines [] = []
kept_lines (none ∷ ts) = kept_lines ts
kept_lines (some t ∷ ts) = t.line ∷ kept_lines ts

-- the labels that a line uses: those of its operations and its go-to
unfoldable pub called_in : ℕ → List (List (List ℕ)) → List (List ℕ)
called_in b [] = []
called_in b (x ∷ xs) = symbols_in (form_of b (expanded x) operation_forms).arguments (expanded x) ++ called_in b xs

unfoldable pub used : ℕ → Line → List (List ℕ)
used b l = called_in b l.operations ++ cond (is_empty l.go_to_of || is_done l.go_to_of) [] (l.go_to_of ∷ [])

unfoldable pub declares : List Line → List ℕ → Bool
declares ls w = any (λ (l : Line). same w l.label) ls

-- 24: a label used is declared nowhere, or the line's own is declared before
unfoldable pub bad_labels : ℕ → List Line → List Line → Line → Bool
bad_labels b all before l = any (λ w. not (declares all w)) (used b l) || (not (is_empty l.label) && declares before l.label)

-- 25: the rows up to this line's last pass 800 or the lent numbers
unfoldable pub too_long : ℕ → ℕ → Bool
too_long lent count = not (leb count 800 && leb (10 * count) lent)

-- the fault of a line, 0 where it has none: the lower number. `before` are the lines before it, without those that break the
-- grammar
unfoldable pub fault_of : ℕ → ℕ → List Line → List Line → Option Typed → ℕ
fault_of b lent all before none = 23
fault_of b lent all before (some t) =
    cond (bad_labels b all before t.line) 24 (cond (too_long lent (row_count (before ++ t.line ∷ []))) 25 0)

-- a refusal: its number, 0 where there is none, and the line of the fault, counted from 1
pub record Refusal : Type 0 where
  pub number : ℕ
  pub line : ℕ

abbrev pub no_refusal : Refusal
no_refusal = record { number = 0; line = 0 }

-- the lowest line with a fault decides; `line` is the first line's number
unfoldable pub lowest_fault : ℕ → ℕ → List Line → List Line → ℕ → List (Option Typed) → Refusal
lowest_fault b lent all before line [] = no_refusal
lowest_fault b lent all before line (t ∷ ts) =
    let fault = fault_of b lent all before t in
    let later = lowest_fault b lent all (before ++ kept_lines (t ∷ [])) (suc line) ts in
    cond (eqb fault 0) later (record { number = fault; line = line })

-- the refusal of a text
unfoldable pub refusal_of : ℕ → ℕ → List ℕ → Refusal
refusal_of b lent text = lowest_fault b lent (kept_lines (read_lines b text)) [] 1 (read_lines b text)

-- the lines of a text
unfoldable pub program : ℕ → List ℕ → List Line
program b text = kept_lines (read_lines b text)

-- what the call answers and what it leaves in the lent table: a refused call writes nothing, and numbers past the last row stay
pub record Left : Type 0 where
  pub answer : Result ℕ ReadError
  pub table : List ℕ

unfoldable pub refused : Refusal → ReadError
refused r = cond (eqb r.number 23) (BadLine r.line) (cond (eqb r.number 24) (BadLabel r.line) (TooLong r.line))

unfoldable pub reading : ℕ → List ℕ → List ℕ → Left
reading b text lent =
    cond (eqb (refusal_of b (length lent) text).number 0)
    (record {
      answer = Ok (row_count (program b text));
      table = table_of b (program b text) ++ drop (10 * row_count (program b text)) lent;
    })
    (record { answer = Err (refused (refusal_of b (length lent) text)); table = lent })

-- the call at a width: 31, before anything else, where that is none
unfoldable pub read_at : ℕ → List ℕ → List ℕ → Left
read_at b text lent = cond (is_width b) (reading b text lent) (record { answer = Err NoWidth; table = lent })

-- its answer in numbers: the row count, or the refusal with the line of its fault
unfoldable pub told_read : Result ℕ ReadError → Told ℕ
told_read (Ok n) = gives n
told_read (Err NoWidth) = refuses 31
told_read (Err (BadLine line)) = tells 23 (line ∷ [])
told_read (Err (BadLabel line)) = tells 24 (line ∷ [])
told_read (Err (TooLong line)) = tells 25 (line ∷ [])

-- what the call tells: 31, or the refusal of the lowest line with a fault, or the row count
unfoldable pub refusal_told : Refusal → ℕ → Told ℕ
refusal_told r rows = cond (eqb r.number 0) (gives rows) (tells r.number (r.line ∷ []))

unfoldable pub read_told : ℕ → List ℕ → List ℕ → Told ℕ
read_told b text lent =
    cond (is_width b) (refusal_told (refusal_of b (length lent) text) (row_count (program b text))) (refuses 31)
