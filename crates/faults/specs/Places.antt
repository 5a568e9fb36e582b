-- The lines of a text by their places. `proofs/Texting.antt` has that they are those of `cut`. Assumes nothing.
use Rattle.std.specs.Prelude.{ℕ, Bool, not, ◌||◌, cond, List, [], ◌∷◌, map, take}
use Rattle.std.proofs.Math.Option.{Option, none, some}
use Rattle.lines.specs.Words.{is_empty, is_done}
use Rattle.word.specs.Told.{Told}
use Rattle.lines.specs.Grammar.{Line, Typed}
use Rattle.lines.specs.Program.{size, kept_lines, declares, fault_of, refusal_told}
use Rattle.faults.specs.Checking.{line_read}
use Rattle.lines.specs.Reading.{cut, read_line}

-- the rows of a line, none where there is no line
unfoldable pub size_of : Option Line → ℕ
size_of none = 0
size_of (some l) = size l

-- the lines of a text, and a label that none of them declares
unfoldable pub lines_in : ℕ → List ℕ → List Line
lines_in b text = kept_lines (map (read_line b) (cut text))

unfoldable pub missing : ℕ → List ℕ → List ℕ → Bool
missing b text w = not (declares (lines_in b text) w)

-- the label of a go-to, and the lines before one
unfoldable pub goes_to_of : List ℕ → List (List ℕ)
goes_to_of w = cond (is_empty w || is_done w) [] (w ∷ [])

unfoldable pub lines_before : ℕ → List ℕ → ℕ → List Line
lines_before b text lines = kept_lines (take lines (map (read_line b) (cut text)))

-- what judging a line tells: its fault with the line's number, or its rows
abbrev pub line_judged : ℕ → ℕ → List Line → List Line → ℕ → Option Typed → Told ℕ
line_judged b lent every before line t =
    refusal_told (record { number = fault_of b lent every before t; line = line }) (size_of (line_read t))
