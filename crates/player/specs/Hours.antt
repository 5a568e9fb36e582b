-- l6_hours: what it answers, and what it leaves in the memory lent to it. Assumes nothing.
use Rattle.std.specs.Prelude.{ℕ, List, Option, Some, None, Result, Ok, Err}
use Rattle.word.specs.Told.{number}
use Rattle.hours.specs.declared.BadHours.{BadHours}
use Rattle.hours.specs.Hours.{open_at, told_opening}

-- an answer of the library's own: closed
abbrev pub closed : ℕ
closed = 104

pub record HoursLeft : Type 0 where
  pub answer : ℕ
  pub row : ℕ

-- 0 and the row; or closed, or the number of the refusal, with row as it was
unfoldable pub after_hours : Result (Option ℕ) BadHours → ℕ → HoursLeft
after_hours (Ok (Some r)) row = record { answer = number (told_opening (Ok (Some r))); row = r }
after_hours (Ok None) row = record { answer = closed; row = row }
after_hours (Err e) row = record { answer = number (told_opening (Err e)); row = row }

unfoldable pub hours_left : List ℕ → List ℕ → ℕ → ℕ → ℕ → HoursLeft
hours_left windows exceptions day minute row = after_hours (open_at windows exceptions day minute) row
