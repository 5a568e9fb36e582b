-- tourcheck: the line that it prints of the bytes of tour.tab, `yes` or what is wrong, in words. Text is ASCII.
-- Document 02: tickets 8 and 9. Assumes nothing.
use Rattle.std.specs.Prelude.{ℕ, ◌+◌, ◌%◌, cond, List, [], ◌∷◌, ◌++◌, ltb, Ok, Err}
use Prim.Native.Char.{code}
use Prim.Native.String.{String}
use Prim.Native.String as text
use Rattle.tour.specs.Tour.{table_of, decimal}
use Rattle.defined.specs.declared.FieldsError.TheVariants.{NotDefined, NoWidth, BadLength, IllFormed, WrongKind}
use Rattle.defined.specs.Answer.{FieldsCheck, fields_checked}

-- the bytes of a text that is written out here
unfoldable pub spelled : String → List ℕ
spelled text.[] = []
spelled (text.◌∷◌ c s) = code c ∷ spelled s

-- the character of a field's name: 0-9 and A-Z for the name numbers 0-35
unfoldable pub field_character : ℕ → ℕ
field_character n = cond (ltb (n % 36) 10) (48 + n % 36) (55 + n % 36)

-- a no, with its row and field
unfoldable pub no_line_of : ℕ → ℕ → List ℕ
no_line_of row field =
    spelled "row "
    ++ (decimal row ++ (spelled " uses field " ++ (field_character field ∷ spelled ", which is not defined there\n")))

-- what the check found
unfoldable pub finding_line : FieldsCheck → List ℕ
finding_line (Ok u) = spelled "yes\n"
finding_line (Err (NotDefined r n)) = no_line_of r n
finding_line (Err NoWidth) = spelled "refusal 31: words have 36 or 48 bits\n"
finding_line (Err BadLength) = spelled "refusal 1: the table has fewer than 20 numbers, more than 8,000, or no multiple of ten\n"
finding_line (Err (IllFormed r)) = spelled "row " ++ (decimal r ++ spelled " is ill-formed\n")
finding_line (Err (WrongKind r)) =
    spelled "refusal 30: row " ++ (decimal r ++ spelled " names a row of the wrong kind, or is row 1 and no line\n")

-- what tourcheck prints for words of b bits: a file that is no table counts as one of a wrong length
unfoldable pub printed : ℕ → List ℕ → List ℕ
printed b tab = finding_line (fields_checked b (table_of tab))
