-- Laws on what tourrun prints that a reader may want to see: a file that is no table gives refusal 1 at the first step, and bytes past
-- the first 64,001 of tour.tab and the first 4,096 of stops.in have no bearing. Assumes nothing.
use Prim.Native.Nat.{ℕ, suc, ◌/◌, ◌%◌, ◌≤◌, ◌<◌}
use native.Mathlib.Omega.{arith}
use mathlib.Core.Bool.{true, false, ◌&&◌, cond}
use mathlib.Core.List.{List, [], ◌∷◌}
use mathlib.Core.Path.{◌≡◌, refl, sym, ap, ◌∙◌}
use borrow.Author.Tests.{lt-leb, leb-true, leb-false}
use lib.Dec.{eqb, leb}
use lib.ListN.{length, take, replicate}
use lib.Seq.{take_all, take-take, length-take-le}
use Rattle.word.specs.Word.{is_width}
use Rattle.table.specs.Row.{length_fits}
use Rattle.machine.specs.declared.Answer.TheVariants.{Refused}
use Rattle.machine.specs.declared.Refusal.TheVariants.{TableLength}
use Rattle.machine.specs.Answer.{refusal_number, is_running, need, ◌>>◌}
use Rattle.machine.specs.State.{fresh, is_finished, tests_of}
use Rattle.machine.specs.Sound.{Lent, Engine}
use Rattle.machine.specs.Step.{Outcome, RunOutcome, unchanged, outcome, plan, step_at, step, engine_of, ending, run_from, run}
use Rattle.machine.proofs.Starting.{fresh_sound}
use Rattle.tour.specs.Tour.{table_of, numbers, played, codes, codes_line, digits_within, decimal, answer_text, last_line, lines}
use Rattle.tour.specs.Tour.{printed, newline, blank}

-- a fresh engine with a table of the wrong length
module _ (l : Lent) (ws : List ℕ) (short : length_fits l.table ≡ false) where
  abbrev start : Engine
  start = record { state = fresh 36; storage = ws }

  first_refused : step l start ≡ unchanged (Refused TableLength) l start
  unfolding step step_at is_width outcome plan need ◌>>◌ fresh is_finished tests_of
  first_refused = rw (fresh_sound 36 l ws, short)

  -- a run whose first step leaves this
  goes_on : ℕ → Outcome → RunOutcome
  goes_on limit o =
      elim (is_running o.stepped.answer) [
        | true ↦ run_from 1 limit (record { table = l.table; input = l.input; output = o.output }) (engine_of o)
        | false ↦ ending o.stepped.answer 1 (engine_of o) o.output
      ]

  run_refused : (limit : ℕ) → run (suc limit) l start ≡ ending (Refused TableLength) 1 start l.output
  unfolding run run_from is_running unchanged engine_of goes_on
  run_refused limit = ap (goes_on limit) first_refused

-- a long file is no table
table_big : (tab : List ℕ) → 64000 < length tab → table_of tab ≡ []
unfolding table_of
table_big tab high =
    rw (lt-leb (length tab) 64000 high)
    (elim (eqb (length tab % 8) 0) as (λ t. cond (t && false) (numbers (length tab / 8) tab) [] ≡ []) [ true ↦ refl | false ↦ refl ])

-- bytes past the first 64,001 of a file have no bearing on its table
table_first : (m : ℕ) → 64000 < m → (tab : List ℕ) → table_of (take m tab) ≡ table_of tab
table_first m high tab =
    elim (leb (length tab) m) as (λ t. leb (length tab) m ≡ t → table_of (take m tab) ≡ table_of tab) [
      | true ↦ λ k. ap table_of (take_all m tab (leb-true (length tab) m k))
      | false ↦ λ k.
          let long : m < length tab = leb-false (length tab) m k in
          table_big (take m tab) (omega (arith, length-take-le m tab (omega arith))) ∙ sym (table_big tab (omega arith))
    ] refl

-- so a program may read no more than this of both files
pub first_bytes : (m n : ℕ) → 64000 < m → 4096 ≤ n → (tab stops : List ℕ) → printed (take m tab) (take n stops) ≡ printed tab stops
unfolding printed played
first_bytes m n high low tab stops = rw (table_first m high tab, take-take 4096 n stops low)

-- a file that is no table: refusal 1 at the first step
pub no_table : (tab stops : List ℕ) → table_of tab ≡ [] → printed tab stops ≡ newline ∷ 49 ∷ blank ∷ 49 ∷ newline ∷ []
unfolding printed played codes codes_line lines last_line answer_text decimal digits_within refusal_number ending fresh length_fits
no_table tab stops none = rw none (let r = run_refused (record { table = []; input = take 4096 stops; output = replicate 4096 0 }) (replicate 4096 0)
    refl 99999 in rw r)
