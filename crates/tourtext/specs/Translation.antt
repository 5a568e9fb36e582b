-- tourread: what it writes into tour.tab and what it prints, of the bytes of tour.l6. Text is ASCII. Document 02, tickets 3 and 9.
-- Assumes nothing.
use Rattle.std.specs.Prelude.{ℕ, ◌*◌, cond, List, [], ◌∷◌, ◌++◌, eqb, take, replicate}
use Rattle.octets.specs.Octets.{bytes_of}
use Rattle.std.specs.Prelude.{Result, Ok, Err}
use Rattle.lines.specs.declared.ReadError.{ReadError}
use Rattle.lines.specs.declared.ReadError.TheVariants.{NoWidth, BadLine, BadLabel, TooLong}
use Rattle.lines.specs.Words.{spelled}
use Rattle.lines.specs.Program.{Left, read_at}
use Rattle.tour.specs.Tour.{newline, blank, decimal}

-- numbers of eight bytes, low first
unfoldable pub filed : List ℕ → List ℕ
filed [] = []
filed (x ∷ xs) = bytes_of 8 x ++ filed xs

-- what a refusal means, in words
unfoldable pub meaning : ℕ → List ℕ
meaning n =
    cond (eqb n 23) (spelled "this line breaks the grammar")
    (cond (eqb n 24) (spelled "a label that this line uses is missing, or its own is declared again")
    (spelled "with this line the table has too many rows"))

-- a fault: the line's number, the refusal, what it means
unfoldable pub fault_line : ℕ → ℕ → List ℕ
fault_line number line = decimal line ++ (blank ∷ (decimal number ++ (blank ∷ (meaning number ++ (newline ∷ [])))))

-- a width that is none: no line is at fault
unfoldable pub width_line : List ℕ
width_line = spelled "31 words have 36 or 48 bits\n"

-- the table of a text, as tourread reads it for words of b bits
unfoldable pub tour_read : ℕ → List ℕ → Left
tour_read b text = read_at b text (replicate 8000 0)

-- the bytes of tour.tab, none where the text has a fault; it is written only where there are some
unfoldable pub file_by : Result ℕ ReadError → List ℕ → List ℕ
file_by (Ok n) table = filed (take (10 * n) table)
file_by (Err e) table = []

unfoldable pub file_of : ℕ → List ℕ → List ℕ
file_of b text = file_by (tour_read b text).answer (tour_read b text).table

-- what is printed: a line where the text has a fault
unfoldable pub refusal_line : ReadError → List ℕ
refusal_line NoWidth = width_line
refusal_line (BadLine line) = fault_line 23 line
refusal_line (BadLabel line) = fault_line 24 line
refusal_line (TooLong line) = fault_line 25 line

unfoldable pub printed_by : Result ℕ ReadError → List ℕ
printed_by (Ok n) = []
printed_by (Err e) = refusal_line e

unfoldable pub printed_of : ℕ → List ℕ → List ℕ
printed_of b text = printed_by (tour_read b text).answer
