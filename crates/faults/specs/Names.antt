-- Labels kept as numbers beside the rows of the lines that declare them, so that the text need not be searched for each use.
-- Assumes nothing.
use Rattle.std.specs.Prelude.{ℕ, zero, suc, ◌+◌, ◌≤◌, ◌<◌, ◌≡◌, Bool, true, false, not, ◌&&◌, cond, List, [], ◌∷◌, ◌++◌, eqb, leb, ltb, length, take, get_or}
use Rattle.character.specs.Character.{number}
use Rattle.lines.specs.Words.{is_empty, all, is_label}
use Rattle.lines.specs.Grammar.{Line}
use Rattle.lines.specs.Reading.{read_line}
use Rattle.lines.specs.Program.{size, row_of, kept_lines, declares}
use Rattle.faults.specs.declared.Label.{Label}
use Rattle.faults.specs.declared.Noted.{Noted}
use Rattle.faults.specs.Checking.{line_read}
use Rattle.faults.specs.Places.{lines_in, size_of}

-- numbers, as many as are asked for: filled up with zeros, or cut
unfoldable pub padded : ℕ → List ℕ → List ℕ
padded zero xs = []
padded (suc n) [] = 0 ∷ padded n []
padded (suc n) (x ∷ xs) = x ∷ padded n xs

-- a label as a number: its bytes in base 256, filled up to six with zeros
unfoldable pub key_of : List ℕ → ℕ
key_of w = number 256 0 (padded 6 w)

-- the row beside the first number that is the one sought, 0 where there is none
unfoldable pub beside : List Label → ℕ → ℕ
beside [] key = 0
beside (l ∷ ls) key = cond (eqb l.key key) l.row (beside ls key)

unfoldable pub known_row : List Label → List ℕ → ℕ
known_row labels w = cond (is_label w) (beside labels (key_of w)) 0

-- the row of a label in a text
abbrev pub label_row : ℕ → List ℕ → List ℕ → ℕ
label_row b text w = row_of 1 (lines_in b text) w

-- a label whose row is known and less than a number of rows
unfoldable pub known_before : List Label → ℕ → List ℕ → Bool
known_before labels count w = not (eqb (known_row labels w) 0) && ltb (known_row labels w) count

-- whether a label has a row
abbrev pub has_row : Label → Bool
has_row l = ltb 0 l.row

-- a row up to 800, 801 for any past it
unfoldable pub capped : ℕ → ℕ
capped r = cond (leb r 800) r 801

-- a row that is found is the label's, as far as 800; a label without one has no row up to 800, and none at all where fewer than 800
-- are put by
pub record Known (b : ℕ) (text : List ℕ) (labels : List Label) : Type 0 where
  pub right : (w : List ℕ) → (known_row labels w ≡ 0 → ⊥) → capped (known_row labels w) ≡ capped (label_row b text w)
  pub some : all has_row labels ≡ true
  pub near : (w : List ℕ) → is_empty w ≡ false → known_row labels w ≡ 0 → label_row b text w ≤ 800 → label_row b text w ≡ 0
  pub whole : length labels < 800 → (w : List ℕ) → is_empty w ≡ false → known_row labels w ≡ 0 → label_row b text w ≡ 0

-- numbers of labels that lines declare
abbrev pub Found : ℕ → List ℕ → List ℕ → Type 0
Found b text keys =
    (w : List ℕ) → is_label w ≡ true → (j : ℕ) → j < length keys → get_or keys j 0 ≡ key_of w → declares (lines_in b text) w ≡ true

-- the first m of some numbers, and then the first r of others
abbrev pub Kept : ℕ → List ℕ → ℕ → List ℕ → ℕ → List ℕ → Type 0
Kept b text m sought r after = Found b text (take m sought) → Found b text (take r after)

pub record Moved (m : ℕ) (sought : List ℕ) (r : ℕ) (after : List ℕ) : Type 0 where
  pub few : r ≤ suc m
  pub long : length after ≡ length sought

-- a word that lines declare unless it is empty, and a line of whose labels this holds
abbrev pub Told : ℕ → List ℕ → List ℕ → Type 0
Told b text w = is_empty w ≡ false → (is_label w ≡ true) × (declares (lines_in b text) w ≡ true)

abbrev pub LineOf : ℕ → List ℕ → List ℕ → Type 0
LineOf b text s = (w : List ℕ) → declares (kept_lines (read_line b s ∷ [])) w ≡ true → declares (lines_in b text) w ≡ true

-- the labels that lines declare, each beside the row of its line, given from r on
unfoldable pub noted : List ℕ → ℕ → List Label
noted w row = cond (is_empty w) [] (record { key = key_of w; row = row } ∷ [])

unfoldable pub labels_of : ℕ → List Line → List Label
labels_of r [] = []
labels_of r (l ∷ ls) = noted l.label r ++ labels_of (r + size l) ls

-- a label put after the first n
pub record Put (n : ℕ) (w : List ℕ) (row : ℕ) (labels after : List Label) (count : ℕ) : Type 0 where
  pub put : take count after ≡ take n labels ++ noted w row
  pub long : length after ≡ length labels
  pub few : count ≤ suc n

-- a line's label put there: `before` rows stand before the line
pub record PutLine (b : ℕ) (s : List ℕ) (n before : ℕ) (labels after : List Label) (r : Noted) : Type 0 where
  pub put : take r.count after ≡ take n labels ++ labels_of (suc before) (kept_lines (read_line b s ∷ []))
  pub long : length after ≡ length labels
  pub few : r.count ≤ suc n
  pub sized : r.count ≤ n + r.size
  pub size_of_lem : r.size ≡ size_of (line_read (read_line b s))
  pub size_few : r.size ≤ length s
