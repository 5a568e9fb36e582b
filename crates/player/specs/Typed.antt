-- l6_read: what it answers, and what it leaves in the memory lent to it. Assumes nothing.
use Rattle.std.specs.Prelude.{ℕ, List}
use Rattle.word.specs.Told.{number}
use Rattle.std.specs.Prelude.{Result, Ok, Err}
use Rattle.lines.specs.declared.ReadError.{ReadError}
use Rattle.lines.specs.declared.ReadError.TheVariants.{NoWidth, BadLine, BadLabel, TooLong}
use Rattle.lines.specs.Program.{Left, read_at, told_read}

-- the row count, otherwise the count as it was
unfoldable pub rows_after : Result ℕ ReadError → ℕ → ℕ
rows_after (Ok n) count = n
rows_after (Err e) count = count

-- the line of the fault, otherwise the line as it was
unfoldable pub line_after : Result ℕ ReadError → ℕ → ℕ
line_after (Ok n) before = before
line_after (Err NoWidth) before = before
line_after (Err (BadLine line)) before = line
line_after (Err (BadLabel line)) before = line
line_after (Err (TooLong line)) before = line

pub record ReadLeft : Type 0 where
  pub answer : ℕ
  pub table : List ℕ
  pub count : ℕ
  pub line : ℕ

-- 0, or the number of the refusal
unfoldable pub after_reading : ℕ → ℕ → Left → ReadLeft
after_reading count line l =
    record {
      answer = number (told_read l.answer);
      table = l.table;
      count = rows_after l.answer count;
      line = line_after l.answer line;
    }

unfoldable pub read_left : ℕ → List ℕ → List ℕ → ℕ → ℕ → ReadLeft
read_left b text table count line = after_reading count line (read_at b text table)
