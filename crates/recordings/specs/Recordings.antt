-- Re-recorded stops: of a museum's corrections to its list, the recording that stands for each stop. Document 02, ticket 6. Assumes
-- nothing.
use Rattle.std.specs.Prelude.{ℕ, zero, suc, ◌+◌, ◌*◌, ◌/◌, ◌%◌, Bool, true, false, not, ◌&&◌, ◌||◌, cond, List, [], ◌∷◌, ◌++◌, eqb, leb, ltb, length, drop, get_or, Result, Ok, Err}
use Rattle.word.specs.Told.{Told, gives, refuses}
use Rattle.recordings.specs.declared.CorrectionError.{CorrectionError}
use Rattle.recordings.specs.declared.CorrectionError.TheVariants.{BadList, RowTwice, OutputShort}

-- a list is rows of four numbers: next, stop number, issue day, recording
abbrev pub number_of : List ℕ → ℕ → ℕ → ℕ
number_of xs row k = get_or xs (4 * row + k) 0

abbrev pub row_count : List ℕ → ℕ
row_count xs = length xs / 4

unfoldable pub next_of : List ℕ → ℕ → ℕ
next_of xs row = number_of xs row 0

unfoldable pub stop_of : List ℕ → ℕ → ℕ
stop_of xs row = number_of xs row 1

unfoldable pub day_of : List ℕ → ℕ → ℕ
day_of xs row = number_of xs row 2

unfoldable pub recording_of : List ℕ → ℕ → ℕ
recording_of xs row = number_of xs row 3

-- row 0 holds the first row's index in its first number and zeros after it
abbrev pub first_row : List ℕ → ℕ
first_row xs = next_of xs 0

abbrev pub zeros_after : List ℕ → Bool
zeros_after xs = eqb (stop_of xs 0) 0 && (eqb (day_of xs 0) 0 && eqb (recording_of xs 0) 0)

-- the next index of each of the first so many rows lies inside
unfoldable pub nexts_inside : List ℕ → ℕ → Bool
nexts_inside xs zero = true
nexts_inside xs (suc row) = ltb (next_of xs row) (row_count xs) && nexts_inside xs row

-- 26: the length is 0 or no multiple of four, row 0 breaks its form, or any row's next index lies outside
unfoldable pub is_list : List ℕ → Bool
is_list xs = not (eqb (length xs) 0) && (eqb (length xs % 4) 0 && (zeros_after xs && nexts_inside xs (row_count xs)))

-- rows are chained by the next index, zero ends the chain: the first n rows that it reaches from a row on, fewer if it ends
unfoldable pub reached : List ℕ → ℕ → ℕ → List ℕ
reached xs zero row = []
reached xs (suc n) row = cond (eqb row 0) [] (row ∷ reached xs n (next_of xs row))

-- the chain. Where it reaches no row twice these are all of its rows, since none of them is row 0; where it does, one of these
-- stands twice
unfoldable pub chain : List ℕ → List ℕ
chain xs = reached xs (row_count xs) (first_row xs)

unfoldable pub member : ℕ → List ℕ → Bool
member x [] = false
member x (y ∷ ys) = eqb x y || member x ys

-- 27: the chain reaches a row a second time
unfoldable pub has_twice : List ℕ → Bool
has_twice [] = false
has_twice (x ∷ xs) = member x xs || has_twice xs

-- a row later in the chain replaces one of the same stop unless its issue day is smaller
unfoldable pub replaces : List ℕ → ℕ → ℕ → Bool
replaces xs later row = eqb (stop_of xs later) (stop_of xs row) && leb (day_of xs row) (day_of xs later)

-- of a row and those after it, the one that stands for its stop: the greatest issue day, on equal days the later one
unfoldable pub standing : List ℕ → ℕ → List ℕ → ℕ
standing xs row [] = row
standing xs row (later ∷ rows) = standing xs (cond (replaces xs later row) later row) rows

-- the standing rows, in the order in which their stops first occur; stops seen before have theirs already
unfoldable pub standing_rows : List ℕ → List ℕ → List ℕ → List ℕ
standing_rows xs seen [] = []
standing_rows xs seen (row ∷ rows) =
    cond (member (stop_of xs row) seen) (standing_rows xs seen rows)
    (standing xs row rows ∷ standing_rows xs (stop_of xs row ∷ seen) rows)

-- the standing rows of the chain
unfoldable pub all_standing : List ℕ → List ℕ
all_standing xs = standing_rows xs [] (chain xs)

-- two numbers for each row
unfoldable pub pairs : (ℕ → ℕ) → (ℕ → ℕ) → List ℕ → List ℕ
pairs f g [] = []
pairs f g (row ∷ rows) = f row ∷ g row ∷ pairs f g rows

-- what the call answers and what it leaves in its output
pub record Left : Type 0 where
  pub answer : Result ℕ CorrectionError
  pub output : List ℕ

-- stop and recording of these rows, from the start of an output that has room, and how many rows they are; 28 where it has none
unfoldable pub written : List ℕ → List ℕ → List ℕ → Left
written xs rows output =
    cond (leb (2 * length rows) (length output))
    (record { answer = Ok (length rows); output = pairs (stop_of xs) (recording_of xs) rows ++ drop (2 * length rows) output })
    (record { answer = Err OutputShort; output = output })

-- the call: 26, 27, 28, each tested over the whole list
unfoldable pub correcting : List ℕ → List ℕ → Left
correcting xs output =
    cond (is_list xs)
    (cond (has_twice (chain xs)) (record { answer = Err RowTwice; output = output }) (written xs (all_standing xs) output))
    (record { answer = Err BadList; output = output })

-- its answer in numbers: the count, or the refusal
unfoldable pub told_written : Result ℕ CorrectionError → Told ℕ
told_written (Ok n) = gives n
told_written (Err BadList) = refuses 26
told_written (Err RowTwice) = refuses 27
told_written (Err OutputShort) = refuses 28

-- what the call tells, in the order 26, 27, 28
unfoldable pub correcting_told : List ℕ → List ℕ → Told ℕ
correcting_told xs output =
    let count = length (all_standing xs) in
    cond (is_list xs)
    (cond (has_twice (chain xs)) (refuses 27) (cond (leb (2 * count) (length output)) (gives count) (refuses 28)))
    (refuses 26)
