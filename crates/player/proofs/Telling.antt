-- What the calls that count leave: the count, and for silent and repeated stops what the crate of silent stops tells. Assumes nothing.
use Rattle.std.proofs.Common.{◌≡◌, ℕ, List, Result, Ok, Err}
use Rattle.std.specs.Result.{MatchResult}
use Rattle.silence.specs.declared.OutputShort.{OutputShort}
use Rattle.silence.specs.Silence.{Left, telling}
use Rattle.player.specs.Counted.{count_after}
use Rattle.player.specs.Silence.{CountedLeft, counted_as, StopsLeft, after_telling, stops_left}

-- the count that is left, by what is known of it where some were written
pub counted_is : {E : Type 0} (answer : Result ℕ E) (before n : ℕ) (P : ℕ → Type 0) → MatchResult answer P (λ _. n ≡ before)
    → ((x : ℕ) → P x → n ≡ x) → n ≡ count_after answer before
unfolding count_after
counted_is (Ok x) before n P is here = here x is
counted_is (Err e) before n P is here = is

abbrev left : Result ℕ OutputShort → List ℕ → Left
left told output = record { answer = told; output = output }

abbrev counted : ℕ → ℕ → CountedLeft
counted answer count = record { answer = answer; count = count }

abbrev all : ℕ → List ℕ → ℕ → StopsLeft
all answer output count = record { answer = answer; output = output; count = count }

pub both_left : (found before : List ℕ) (n : ℕ) {told : Result ℕ OutputShort} {after : List ℕ} {answer count : ℕ}
    → left told after ≡ telling found before → counted answer count ≡ counted_as told n → all answer after count ≡ stops_left found before n
unfolding stops_left after_telling
both_left found before n wrote told = rw (← wrote, ← told)
