-- What the contracts of inner functions name besides: the chain walked, rows entered one after the other, the chains of places by
-- which a stop is found again, the least stop from a bound on. Assumes nothing.
use Rattle.std.specs.Prelude.{ℕ, zero, suc, ◌+◌, ◌*◌, ◌/◌, ◌%◌, ◌<◌, ◌≤◌, Bool, true, false, ◌&&◌, cond, List, [], ◌∷◌, map, ◌≡◌, eqb, leb, ltb, length, drop, get_or, set, Option, Some, None, Result}
use Rattle.word.specs.Told.{Told, tells, gives}
use Rattle.recordings.specs.declared.CorrectionError.{CorrectionError}
use Rattle.recordings.specs.Recordings.{number_of, stop_of, day_of, recording_of, row_count, is_list, chain, has_twice, all_standing}
use Rattle.recordings.specs.Recordings.{pairs}
use Rattle.recordings.specs.Recordings.{correcting, told_written, correcting_told}

-- a list that is not refused by 26, with the length of its chain
pub record Walked (xs : List ℕ) (steps : ℕ) : Type 0 where
  pub is_list_lem : is_list xs ≡ true
  pub all_steps : steps ≡ length (chain xs)

-- of two rows of a stop the one that stands: the later one, unless its issue day is smaller
abbrev pub standing_of : List ℕ → ℕ → ℕ → ℕ
standing_of xs row later = cond (leb (day_of xs row) (day_of xs later)) later row

-- one row more: in place of the row of its stop, unless its issue day is smaller, or after the others
unfoldable pub entered : List ℕ → ℕ → List ℕ → List ℕ
entered xs later [] = later ∷ []
entered xs later (row ∷ rows) =
    cond (eqb (stop_of xs later) (stop_of xs row)) (standing_of xs row later ∷ rows) (row ∷ entered xs later rows)

-- the first number at a place of an output while rows are noted: a row of the list
abbrev pub row_at : List ℕ → ℕ → ℕ
row_at output k = get_or output (2 * k) 0

-- the second number there: in its lower 32 bits a link
abbrev pub second_at_of : List ℕ → ℕ → ℕ
second_at_of output k = get_or output (2 * k + 1) 0

-- the link
abbrev pub link_at : List ℕ → ℕ → ℕ
link_at output k = second_at_of output k % 4294967296

-- how many chains of places there are: as many as there are heads apart, or as the first pairs that have a head each, if any do
abbrev pub chain_count : List ℕ → ℕ → ℕ
chain_count heads size = cond (eqb size 0) (length heads) size

-- the head of a chain, apart or in the upper 32 bits of the second number of a pair
abbrev pub head_at : List ℕ → ℕ → List ℕ → ℕ → ℕ
head_at heads size output r = cond (eqb size 0) (get_or heads r 0) (second_at_of output r / 4294967296)

-- the stop of the row there
abbrev pub stop_at : List ℕ → List ℕ → ℕ → ℕ
stop_at xs output k = stop_of xs (row_at output k)

-- the rows at the first so many places of an output
unfoldable pub held_rows : ℕ → List ℕ → List ℕ
held_rows zero output = []
held_rows (suc count) output = get_or output 0 0 ∷ held_rows count (drop 2 output)

-- an output that holds so many rows of the list
pub record Holds (xs : List ℕ) (count : ℕ) (output : List ℕ) : Type 0 where
  pub is_list_lem : is_list xs ≡ true
  pub room : 2 * count ≤ length output
  pub inside : (k : ℕ) → k < count → row_at output k < row_count xs

-- the rows noted in an output, n of them; what stands past them is as before
pub record Noted (rows : List ℕ) (n : ℕ) (before after : List ℕ) : Type 0 where
  pub held : held_rows n after ≡ rows
  pub room : 2 * n ≤ length after
  pub past : drop (2 * n) after ≡ drop (2 * n) before
  pub same_long : length after ≡ length before

-- one more than the last of the first so many places whose stop has a remainder; 0 where there is none
unfoldable pub newest : List ℕ → List ℕ → ℕ → ℕ → ℕ → ℕ
newest xs output size remainder zero = 0
newest xs output size remainder (suc k) =
    cond (eqb (stop_at xs output k % size) remainder) (suc k) (newest xs output size remainder k)

-- a chain of places for each of n remainders: from its head, and from each place to the one before it
pub record Chains (xs : List ℕ) (n : ℕ) (head : ℕ → ℕ) (output : List ℕ) (count : ℕ) : Type 0 where
  pub first : (r : ℕ) → r < n → head r ≡ newest xs output n r count
  pub next : (k : ℕ) → k < count → link_at output k ≡ newest xs output n (stop_at xs output k % n) k

-- the same as far as 32 bits name a place
pub record Linked (xs heads : List ℕ) (size : ℕ) (output : List ℕ) (count : ℕ) : Type 0 where
  pub some : 0 < length heads
  pub within : size ≤ count
  pub chains : count < 4294967296 → Chains xs (chain_count heads size) (head_at heads size output) output count

-- the same rows, and the same past the first n pairs
pub record Kept (n : ℕ) (before after : List ℕ) : Type 0 where
  pub rows : (k : ℕ) → row_at after k ≡ row_at before k
  pub past : drop (2 * n) after ≡ drop (2 * n) before
  pub same_long : length after ≡ length before

-- another head of a chain
pub record HeadPut (size r head : ℕ) (before after heads now : List ℕ) : Type 0 where
  pub kept : (n : ℕ) → size ≤ n → Kept n before after
  pub links : (k : ℕ) → link_at after k ≡ link_at before k
  pub here : head_at now size after r ≡ head
  pub others : (other : ℕ) → (other ≡ r → ⊥) → head_at now size after other ≡ head_at heads size before other
  pub same_long : length now ≡ length heads

-- a place put at the head of its chain
pub record Pushed (xs : List ℕ) (size k : ℕ) (before after heads now : List ℕ) : Type 0 where
  pub kept : (n : ℕ) → k < n → size ≤ n → Kept n before after
  pub same_long : length now ≡ length heads
  pub chains : k < 4294967295 → Chains xs (chain_count heads size) (head_at heads size before) before k
      → Chains xs (chain_count heads size) (head_at now size after) after (suc k)

-- pairs whose second numbers are zero
pub record Cleared (count : ℕ) (before after : List ℕ) : Type 0 where
  pub kept : Kept count before after
  pub zeros : (k : ℕ) → k < count → second_at_of after k ≡ 0

-- the chains of the same rows made anew
pub record Regrown (xs : List ℕ) (size count : ℕ) (before after heads now : List ℕ) : Type 0 where
  pub kept : Kept count before after
  pub linked : Linked xs now size after count
  pub same_long : length now ≡ length heads

-- heads of no chains
pub record Fresh (heads : List ℕ) : Type 0 where
  pub some : 0 < length heads
  pub zeros : (r : ℕ) → r < length heads → get_or heads r 0 ≡ 0

-- the place of a stop, or the count where it is at none of the first so many
pub record Place (xs output : List ℕ) (count stop place : ℕ) : Type 0 where
  pub most : place ≤ count
  pub found : place < count → stop_at xs output place ≡ stop
  pub none : place ≡ count → (k : ℕ) → k < count → stop_at xs output k ≡ stop → ⊥

-- the stops of rows
abbrev pub stops : List ℕ → List ℕ → List ℕ
stops xs rows = map (stop_of xs) rows

-- what entering a row asks: that it is one of the list's, that no stop was noted twice, and that there is room for the rows with it
pub record Entering (xs : List ℕ) (row count : ℕ) (output : List ℕ) : Type 0 where
  pub inside : row < row_count xs
  pub holds : Holds xs count output
  pub differ : has_twice (stops xs (held_rows count output)) ≡ false
  pub room : 2 * length (entered xs row (held_rows count output)) ≤ length output

-- what it leaves: the rows noted, n of them, and their chains
pub record Enters (xs : List ℕ) (row size count n : ℕ) (before after heads now : List ℕ) : Type 0 where
  pub noted : Noted (entered xs row (held_rows count before)) n before after
  pub linked : Linked xs now size after n
  pub same_long : length now ≡ length heads

-- stop and recording of a row written as pair k
abbrev pub with_row : List ℕ → ℕ → ℕ → List ℕ → List ℕ
with_row xs row k output = set (set output (2 * k) (number_of xs row 1)) (2 * k + 1) (number_of xs row 3)

-- stops and recordings of the standing rows
abbrev pub all_written : List ℕ → List ℕ
all_written xs = pairs (stop_of xs) (recording_of xs) (all_standing xs)

-- an answer and what it leaves, also in the ticket's numbers
abbrev pub Answered : List ℕ → List ℕ → Result ℕ CorrectionError → List ℕ → Type 0
Answered xs output answer after =
    (record { answer = answer; output = after } ≡ correcting xs output) × (told_written answer ≡ correcting_told xs output)

-- more stops than are noted in memory of the call's own, unless the chain reaches a row twice
abbrev pub ManyStops : List ℕ → Type 0
ManyStops xs = length (chain xs) < row_count xs → 1023 < length (all_standing xs)

-- the rows of a chain that ends noted, n of them, if these are few
pub record FewNoted (xs : List ℕ) (n : ℕ) (after : List ℕ) : Type 0 where
  pub ends : n ≤ 1023 → length (chain xs) < row_count xs
  pub noted : n ≤ 1023 → Noted (all_standing xs) n after after
  pub many : 1023 < n → ManyStops xs

-- a chain that ends, with so few stops
unfoldable pub has_few : List ℕ → Bool
has_few xs = ltb (length (chain xs)) (row_count xs) && leb (length (all_standing xs)) 1023

-- an answer for few stops in numbers: the call's own, or 0 and no value where there are more. The papers give that case no number
unfoldable pub told_few : Option (Result ℕ CorrectionError) → Told ℕ
told_few (Some answer) = told_written answer
told_few None = tells 0 []

-- what is told of few stops, and the output with these written, or as it was
unfoldable pub few_told : List ℕ → List ℕ → Told ℕ
few_told xs output = cond (has_few xs) (correcting_told xs output) (tells 0 [])

unfoldable pub few_output : List ℕ → List ℕ → List ℕ
few_output xs output = cond (has_few xs) (correcting xs output).output output

-- the least number that is greater than what was found before, where there was something
unfoldable pub from : Option ℕ → ℕ
from None = 0
from (Some last) = suc last

-- the lesser of what was found and a stop, unless the stop is below a bound
unfoldable pub lesser : ℕ → Option ℕ → ℕ → Option ℕ
lesser low None stop = cond (leb low stop) (Some stop) None
lesser low (Some found) stop = cond (leb low stop && ltb stop found) (Some stop) (Some found)

-- the least of these numbers that is not below a bound, and of what was found before them
unfoldable pub least_from : ℕ → Option ℕ → List ℕ → Option ℕ
least_from low found [] = found
least_from low found (x ∷ xs) = least_from low (lesser low found x) xs

-- a least stop in numbers: 0 and the stop, 0 and no value where there is none. The papers give this answer no other number
unfoldable pub told_least : Option ℕ → Told ℕ
told_least (Some x) = gives x
told_least None = tells 0 []

-- what is told of the lesser, and of the least of these numbers that is not below a bound
unfoldable pub lesser_told : ℕ → Option ℕ → ℕ → Told ℕ
lesser_told low None stop = cond (leb low stop) (gives stop) (tells 0 [])
lesser_told low (Some found) stop = cond (leb low stop && ltb stop found) (gives stop) (gives found)

unfoldable pub least_told : ℕ → List ℕ → Told ℕ
least_told low xs = told_least (least_from low None xs)
