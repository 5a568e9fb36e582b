-- l6_recordings: what it answers, and what it leaves in the memory lent to it. Assumes nothing.
use Rattle.std.specs.Prelude.{ℕ, List}
use Rattle.word.specs.Told.{number}
use Rattle.player.specs.Counted.{count_after}
use Rattle.recordings.specs.Recordings.{Left, correcting, told_written}

pub record RecordingsLeft : Type 0 where
  pub answer : ℕ
  pub output : List ℕ
  pub count : ℕ

-- 0, or the number of the refusal
unfoldable pub after_recordings : ℕ → Left → RecordingsLeft
after_recordings count l =
    record { answer = number (told_written l.answer); output = l.output; count = count_after l.answer count }

unfoldable pub recordings_left : List ℕ → List ℕ → ℕ → RecordingsLeft
recordings_left list output count = after_recordings count (correcting list output)
