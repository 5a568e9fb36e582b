-- tourrun: what it prints of the bytes of tour.tab and stops.in. Text is ASCII.
-- Document 01: "Bench cases", tourrun. Assumes nothing.
use Rattle.std.specs.Prelude.{ℕ, zero, suc, ◌+◌, ◌/◌, ◌%◌, ◌&&◌, cond, List, [], ◌∷◌, ◌++◌, eqb, leb, length, take, drop, replicate}
use Rattle.octets.specs.Octets.{low_first}
use Rattle.machine.specs.declared.Answer.{Answer}
use Rattle.machine.specs.declared.Answer.TheVariants.{Running, Finished, Refused}
use Rattle.machine.specs.Answer.{refusal_number}
use Rattle.machine.specs.State.{fresh}
use Rattle.machine.specs.Step.{RunOutcome, run}

-- the first n numbers of eight bytes, low first
unfoldable pub numbers : ℕ → List ℕ → List ℕ
numbers zero bytes = []
numbers (suc n) bytes = low_first (take 8 bytes) ∷ numbers n (drop 8 bytes)

-- the table: a tour.tab of no multiple of eight bytes, or above 64,000, counts as refusal 1 at the first step, as no numbers do
unfoldable pub table_of : List ℕ → List ℕ
table_of tab = cond (eqb (length tab % 8) 0 && leb (length tab) 64000) (numbers (length tab / 8) tab) []

-- 100,000 steps of a fresh engine of 36 bits over 4,096 words, with the first 4,096 bytes of stops.in and 4,096 output bytes
unfoldable pub played : List ℕ → List ℕ → RunOutcome
played tab stops =
    run 100000 (record { table = table_of tab; input = take 4096 stops; output = replicate 4096 0 })
    (record { state = fresh 36; storage = replicate 4096 0 })

-- the codes written
unfoldable pub codes : RunOutcome → List ℕ
codes r = take r.ran.state.core.written r.output

abbrev pub newline : ℕ
newline = 10

abbrev pub blank : ℕ
blank = 32

-- the digit 0
abbrev pub nought : ℕ
nought = 48

-- what stands after a code: a blank, or the line's end after the last
unfoldable pub after_code : List ℕ → ℕ
after_code [] = newline
after_code (c ∷ cs) = blank

-- codes in two octal digits
unfoldable pub octals : List ℕ → List ℕ
octals [] = []
octals (c ∷ cs) = (nought + c / 8 % 8) ∷ (nought + c % 8) ∷ after_code cs ∷ octals cs

-- a line of the codes with one blank between, an empty line if there are none
unfoldable pub codes_line : List ℕ → List ℕ
codes_line [] = newline ∷ []
codes_line (c ∷ cs) = octals (c ∷ cs)

-- the decimal digits of a number, none of 0; no number has more of them than it counts
unfoldable pub digits_within : ℕ → ℕ → List ℕ
digits_within zero n = []
digits_within (suc most) n = cond (eqb n 0) [] (digits_within most (n / 10) ++ ((nought + n % 10) ∷ []))

-- a number in decimal
unfoldable pub decimal : ℕ → List ℕ
decimal n = cond (eqb n 0) (nought ∷ []) (digits_within n n)

-- "running", "finished" or the refusal number
unfoldable pub answer_text : Answer → List ℕ
answer_text Running = 114 ∷ 117 ∷ 110 ∷ 110 ∷ 105 ∷ 110 ∷ 103 ∷ []
answer_text Finished = 102 ∷ 105 ∷ 110 ∷ 105 ∷ 115 ∷ 104 ∷ 101 ∷ 100 ∷ []
answer_text (Refused r) = decimal (refusal_number r)

-- a line with the answer, then the step count
unfoldable pub last_line : Answer → ℕ → List ℕ
last_line answer count = answer_text answer ++ (blank ∷ (decimal count ++ (newline ∷ [])))

-- both lines of a run
unfoldable pub lines : List ℕ → Answer → ℕ → List ℕ
lines cs answer count = codes_line cs ++ last_line answer count

-- what tourrun prints
unfoldable pub printed : List ℕ → List ℕ → List ℕ
printed tab stops =
    let r : RunOutcome = played tab stops in
    lines (codes r) r.ran.answer r.ran.count
