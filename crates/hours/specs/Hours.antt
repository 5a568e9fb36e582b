-- Opening hours: the row of the entry line at which a tour starts, by the day and the minute. Document 02: ticket 7. Assumes
-- nothing.
use Rattle.std.specs.Prelude.{ℕ, zero, suc, ◌+◌, ◌/◌, ◌%◌, Bool, true, false, ◌&&◌, ◌||◌, cond, List, [], ◌∷◌, eqb, leb, ltb, length, take, drop, get_or, Option, Some, None, Result, Ok, Err}
use Rattle.word.specs.Told.{Told, tells, gives, refuses}
use Rattle.hours.specs.declared.Entry.{Entry}
use Rattle.hours.specs.declared.BadHours.{BadHours}

-- day 0 is 1 January 2000, a Saturday; weekdays run from 0, Monday, to 6
abbrev pub weekday : ℕ → ℕ
weekday day = (day + 5) % 7

-- a window is four numbers, an exception five
abbrev pub window : ℕ
window = 4

abbrev pub exception : ℕ
exception = 5

-- an entry of its numbers: a window's weekday or an exception's day, the opening and the closing minute, the row, and 1 if it is
-- closed; a window has no fifth number, which counts as 0
unfoldable pub entry_of : List ℕ → Entry
entry_of xs =
    record { name = get_or xs 0 0; opening = get_or xs 1 0; closing = get_or xs 2 0; row = get_or xs 3 0; closed = get_or xs 4 0 }

-- so many entries of n numbers, one after the other
unfoldable pub entries_of : ℕ → ℕ → List ℕ → List Entry
entries_of n zero xs = []
entries_of n (suc count) xs = entry_of (take n xs) ∷ entries_of n count (drop n xs)

-- all entries of a list
unfoldable pub entries : ℕ → List ℕ → List Entry
entries n xs = entries_of n (length xs / n) xs

-- 0 ≤ opening < closing ≤ 1,440, and a row from 1 to 799
abbrev pub has_hours : Entry → Bool
has_hours e = ltb e.opening e.closing && (leb e.closing 1440 && (leb 1 e.row && leb e.row 799))

-- the three numbers of a closed exception are zero
abbrev pub has_zeros : Entry → Bool
has_zeros e = eqb e.opening 0 && (eqb e.closing 0 && eqb e.row 0)

-- a window names a weekday, an exception any day
abbrev pub has_name : ℕ → Entry → Bool
has_name n e = eqb n exception || leb e.name 6

-- an entry of n numbers keeps the rules
unfoldable pub keeps : ℕ → Entry → Bool
keeps n e = has_name n e && cond (eqb e.closed 0) (has_hours e) (eqb e.closed 1 && has_zeros e)

unfoldable pub all_keep_of : ℕ → List Entry → Bool
all_keep_of n [] = true
all_keep_of n (e ∷ es) = keeps n e && all_keep_of n es

-- the opening minute counts as open, the closing minute as closed
abbrev pub holds : ℕ → Entry → Bool
holds minute e = leb e.opening minute && ltb minute e.closing

-- some entry names this day or weekday
unfoldable pub any_names : ℕ → List Entry → Bool
any_names k [] = false
any_names k (e ∷ es) = eqb e.name k || any_names k es

-- the entries that name it
unfoldable pub naming : ℕ → List Entry → List Entry
naming k [] = []
naming k (e ∷ es) = cond (eqb e.name k) (e ∷ naming k es) (naming k es)

-- the entries that count: if any exception names the day, only that day's exceptions, otherwise only its weekday's windows
unfoldable pub counting : ℕ → List Entry → List Entry → List Entry
counting day windows exceptions =
    cond (any_names day exceptions) (naming day exceptions) (naming (weekday day) windows)

-- the first that holds the minute gives the row; if none, closed
unfoldable pub first_holding : ℕ → List Entry → Option ℕ
first_holding minute [] = None
first_holding minute (e ∷ es) = cond (holds minute e) (Some e.row) (first_holding minute es)

-- a list of entries of n numbers: its length is a multiple of n, and every entry keeps the rules
unfoldable pub list_keeps : ℕ → List ℕ → Bool
list_keeps n xs = eqb (length xs % n) 0 && all_keep_of n (entries n xs)

-- what is tested before the search: both whole lists, and the minute
unfoldable pub accepts : List ℕ → List ℕ → ℕ → Bool
accepts windows exceptions minute = list_keeps window windows && (list_keeps exception exceptions && leb minute 1439)

-- the answer of two lists on a day at a minute
unfoldable pub open_at : List ℕ → List ℕ → ℕ → ℕ → Result (Option ℕ) BadHours
open_at windows exceptions day minute =
    cond (accepts windows exceptions minute)
    (Ok (first_holding minute (counting day (entries window windows) (entries exception exceptions))))
    (Err (record {}))

-- its answer in numbers: the row, no value where it is closed, or 29
unfoldable pub told_opening : Result (Option ℕ) BadHours → Told ℕ
told_opening (Ok (Some r)) = gives r
told_opening (Ok None) = tells 0 []
told_opening (Err e) = refuses 29

-- what the call tells: 29, or the row of the first entry that holds the minute, if there is one
unfoldable pub holding_told : ℕ → List Entry → Told ℕ
holding_told minute [] = tells 0 []
holding_told minute (e ∷ es) = cond (holds minute e) (gives e.row) (holding_told minute es)

unfoldable pub open_told : List ℕ → List ℕ → ℕ → ℕ → Told ℕ
open_told windows exceptions day minute =
    cond (accepts windows exceptions minute)
    (holding_told minute (counting day (entries window windows) (entries exception exceptions)))
    (refuses 29)
