-- l6_silent and l6_repeated: what they answer, and what they leave in the memory lent to them. Assumes nothing.
use Rattle.std.specs.Prelude.{ℕ, List, Result}
use Rattle.word.specs.Told.{number}
use Rattle.silence.specs.declared.OutputShort.{OutputShort}
use Rattle.player.specs.Counted.{count_after}
use Rattle.silence.specs.Silence.{Left, telling, told_listed}

pub record CountedLeft : Type 0 where
  pub answer : ℕ
  pub count : ℕ

-- 0, or the number of the refusal
unfoldable pub counted_as : Result ℕ OutputShort → ℕ → CountedLeft
counted_as told count = record { answer = number (told_listed told); count = count_after told count }

pub record StopsLeft : Type 0 where
  pub answer : ℕ
  pub output : List ℕ
  pub count : ℕ

-- these stops told: the output as the crate of silent stops leaves it
unfoldable pub after_telling : Left → ℕ → StopsLeft
after_telling l count =
    record { answer = (counted_as l.answer count).answer; output = l.output; count = (counted_as l.answer count).count }

unfoldable pub stops_left : List ℕ → List ℕ → ℕ → StopsLeft
stops_left found output count = after_telling (telling found output) count
