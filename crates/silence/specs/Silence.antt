-- Stops without a recording, and stops that stand twice, of a list of the stops on display. Assumes nothing.
use Rattle.std.specs.Prelude.{ℕ, ◌+◌, Bool, false, not, ◌&&◌, ◌||◌, cond, List, [], ◌∷◌, ◌++◌, ◌≡◌, eqb, leb, length, get_or, take, drop, Result, Ok, Err}
use Rattle.word.specs.Told.{Told, gives, refuses}
use Rattle.recordings.specs.Recordings.{member}
use Rattle.silence.specs.declared.OutputShort.{OutputShort}
use Rattle.silence.specs.declared.Asked.{Asked}
use Rattle.silence.specs.declared.Asked.TheVariants.{Silent, Repeated}

-- some pair of stop and recording has the stop with a recording; recording 0 is none, and a last number that is no pair has none
unfoldable pub has_recording : ℕ → List ℕ → Bool
has_recording s [] = false
has_recording s (stop ∷ []) = false
has_recording s (stop ∷ recording ∷ pairs) = (eqb stop s && not (eqb recording 0)) || has_recording s pairs

-- a test of a stop of a list: what stands before it, the stop, and what stands after it
abbrev pub Test : Type 0
Test = List ℕ → ℕ → List ℕ → Bool

-- which stops are asked for: those that no pair with a recording has, or those that stand again later and not before
unfoldable pub test_of : Asked → List ℕ → Test
test_of Silent pairs before s later = not (has_recording s pairs)
test_of Repeated pairs before s later = member s later && not (member s before)

-- the stops that a test picks, in the order of the list, of which some stops are passed
unfoldable pub picked : Test → List ℕ → List ℕ → List ℕ
picked test before [] = []
picked test before (s ∷ later) =
    cond (test before s later) (s ∷ picked test (before ++ (s ∷ [])) later) (picked test (before ++ (s ∷ [])) later)

-- what a test says of the stop at a place
abbrev pub test_at : Test → List ℕ → ℕ → Bool
test_at test stops i = test (take i stops) (get_or stops i 0) (drop (i + 1) stops)

-- the stops of a list that are asked for
abbrev pub chosen : Asked → List ℕ → List ℕ → List ℕ
chosen asked pairs stops = picked (test_of asked pairs) [] stops

-- the stops of a list that are silent, by the pairs
abbrev pub silent : List ℕ → List ℕ → List ℕ
silent pairs stops = chosen Silent pairs stops

-- the stops that stand in it twice or more, each once, where it first occurs
abbrev pub repeated : List ℕ → List ℕ
repeated stops = chosen Repeated [] stops

-- what a call answers and what it leaves in its output
pub record Left : Type 0 where
  pub answer : Result ℕ OutputShort
  pub output : List ℕ

-- these stops from the start of an output that has room, and how many they are; 28 where it has none
unfoldable pub telling : List ℕ → List ℕ → Left
telling found output =
    cond (leb (length found) (length output))
    (record { answer = Ok (length found); output = found ++ drop (length found) output })
    (record { answer = Err (record {}); output = output })

-- the answer in numbers: the count, or 28
unfoldable pub told_listed : Result ℕ OutputShort → Told ℕ
told_listed (Ok n) = gives n
told_listed (Err e) = refuses 28

-- what a call tells that lists these stops
unfoldable pub telling_told : List ℕ → List ℕ → Told ℕ
telling_told found output = cond (leb (length found) (length output)) (gives (length found)) (refuses 28)

-- both: what the calls promise
pub record Tells (found output : List ℕ) (answer : Result ℕ OutputShort) (after : List ℕ) : Type 0 where
  pub left : record { answer = answer; output = after } ≡ telling found output
  pub numbered : told_listed answer ≡ telling_told found output
