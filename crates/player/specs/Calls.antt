-- The library's calls: what each answers, and what it leaves in the memory lent to it. The state is its bytes
-- (layout/specs/Layout). Assumes nothing.
use Rattle.std.specs.Prelude.{ℕ, ◌*◌, Bool, true, false, not, ◌&&◌, ◌||◌, cond, List, [], ◌∷◌, ◌++◌, eqb, ltb, length, Result, Ok, Err}
use Rattle.word.specs.Told.{number}
use Rattle.word.specs.Word.{is_width}
use Rattle.table.specs.declared.TableError.{TableError}
use Rattle.table.specs.Table.{table_checked, told_check}
use Rattle.machine.specs.declared.Answer.{Answer}
use Rattle.machine.specs.declared.Answer.TheVariants.{Running, Finished, Refused}
use Rattle.machine.specs.declared.Refusal.TheVariants as refusals
use Rattle.machine.specs.declared.Refusal.TheVariants.{Unsound}
use Rattle.machine.specs.declared.Report.{Report}
use Rattle.machine.specs.declared.State.{State}
use Rattle.machine.specs.declared.Store.{Store}
use Rattle.machine.specs.Answer.{refusal_number}
use Rattle.machine.specs.State.{fresh, told_fresh, is_finished}
use Rattle.machine.specs.Sound.{Lent, Engine}
use Rattle.machine.specs.Step.{Outcome, RunOutcome, step, run}
use Rattle.block.specs.Blocks.{Block}
use Rattle.layout.specs.Layout.{state_length, bytes_of_state, state_of}
use Rattle.listing.specs.Listing.{are_blocks, blocks, numbers_of}

-- the version of the library
abbrev pub version : ℕ
version = 1

-- the number of an answer: 0 running, 100 finished, document 01's number of a refusal
unfoldable pub code : Answer → ℕ
code Running = 0
code Finished = 100
code (Refused r) = refusal_number r

-- answers of the library's own: the length of the state, of the report, of a list is wrong
abbrev pub wrong_state : ℕ
wrong_state = 101

abbrev pub wrong_report : ℕ
wrong_report = 102

abbrev pub wrong_list : ℕ
wrong_list = 103

unfoldable pub is_refused : Answer → Bool
is_refused Running = false
is_refused Finished = false
is_refused (Refused r) = true

-- steps were carried out: more than one, or one that was not refused of an engine that was not finished
unfoldable pub moved : Bool → Answer → ℕ → Bool
moved finished answer count = ltb 1 count || (eqb count 1 && not finished && not (is_refused answer))

-- the bytes of the state after count steps: written anew only where some were carried out
unfoldable pub bytes_after : List ℕ → Answer → ℕ → State → List ℕ
bytes_after bytes answer count after = cond (moved (is_finished (state_of bytes).core.place) answer count) (bytes_of_state after) bytes

-- the engine of these bytes over a storage
abbrev pub engine_at : List ℕ → List ℕ → Engine
engine_at bytes storage = record { state = state_of bytes; storage = storage }

-- l6_fresh
pub record FreshLeft : Type 0 where
  pub answer : ℕ
  pub state : List ℕ

-- 31 before the library's own answer
unfoldable pub fresh_left : ℕ → List ℕ → FreshLeft
fresh_left b bytes =
    cond (is_width b)
    (cond (eqb (length bytes) state_length) (record { answer = 0; state = bytes_of_state (fresh b) })
    (record { answer = wrong_state; state = bytes }))
    (record { answer = number (told_fresh (Err (record {}))); state = bytes })

-- a report as twelve numbers
unfoldable pub numbers_of_store : Store → List ℕ
numbers_of_store x = x.address ∷ x.left ∷ x.right ∷ x.bits ∷ []

unfoldable pub numbers_of_report : Report → List ℕ
numbers_of_report r =
    (r.freed ∷ r.delivered ∷ r.size ∷ r.copied ∷ []) ++ (numbers_of_store r.first ++ numbers_of_store r.second)

-- l6_step
pub record StepLeft : Type 0 where
  pub answer : ℕ
  pub storage : List ℕ
  pub output : List ℕ
  pub state : List ℕ
  pub report : List ℕ

abbrev pub step_leaves : ℕ → List ℕ → List ℕ → List ℕ → List ℕ → StepLeft
step_leaves answer storage output state report =
    record { answer = answer; storage = storage; output = output; state = state; report = report }

-- a step is left so: a refused one reports zeros, as the engine's does
unfoldable pub after_step : List ℕ → Outcome → StepLeft
after_step bytes o =
    record {
      answer = code o.stepped.answer;
      storage = o.storage;
      output = o.output;
      state = bytes_after bytes o.stepped.answer 1 o.stepped.state;
      report = numbers_of_report o.stepped.report;
    }

-- nothing is changed
unfoldable pub no_step : ℕ → Lent → List ℕ → List ℕ → List ℕ → StepLeft
no_step answer l storage bytes report =
    record { answer = answer; storage = storage; output = l.output; state = bytes; report = report }

-- a report of a wrong length is answered only where the state's width is one: 31 comes before anything else
unfoldable pub unreported : List ℕ → ℕ
unreported bytes = cond (is_width (state_of bytes).width) wrong_report (code (Refused refusals.NoWidth))

unfoldable pub step_left : Lent → List ℕ → List ℕ → List ℕ → StepLeft
step_left l storage bytes report =
    cond (eqb (length bytes) state_length)
    (cond (eqb (length report) 12) (after_step bytes (step l (engine_at bytes storage)))
    (no_step (unreported bytes) l storage bytes report))
    (no_step wrong_state l storage bytes report)

-- l6_run
pub record RunLeft : Type 0 where
  pub answer : ℕ
  pub storage : List ℕ
  pub output : List ℕ
  pub state : List ℕ
  pub count : ℕ

abbrev pub run_leaves : ℕ → List ℕ → List ℕ → List ℕ → ℕ → RunLeft
run_leaves answer storage output state count =
    record { answer = answer; storage = storage; output = output; state = state; count = count }

unfoldable pub after_run : List ℕ → RunOutcome → RunLeft
after_run bytes r =
    record {
      answer = code r.ran.answer;
      storage = r.storage;
      output = r.output;
      state = bytes_after bytes r.ran.answer r.ran.count r.ran.state;
      count = r.ran.count;
    }

unfoldable pub no_run : ℕ → Lent → List ℕ → List ℕ → ℕ → RunLeft
no_run answer l storage bytes count =
    record { answer = answer; storage = storage; output = l.output; state = bytes; count = count }

unfoldable pub run_left : ℕ → Lent → List ℕ → List ℕ → ℕ → RunLeft
run_left limit l storage bytes count =
    cond (eqb (length bytes) state_length) (after_run bytes (run limit l (engine_at bytes storage)))
    (no_run wrong_state l storage bytes count)

-- l6_check: the lowest ill-formed row, or 31 or 1 with row as it was
pub record CheckLeft : Type 0 where
  pub answer : ℕ
  pub row : ℕ

unfoldable pub after_check : Result ℕ TableError → ℕ → CheckLeft
after_check (Ok r) row = record { answer = number (told_check (Ok r)); row = r }
after_check (Err e) row = record { answer = number (told_check (Err e)); row = row }

unfoldable pub check_left : ℕ → List ℕ → ℕ → CheckLeft
check_left b table row = after_check (table_checked b table) row

-- l6_count_blocks and l6_list_blocks leave the list that they are lent
pub record ListLeft : Type 0 where
  pub answer : ℕ
  pub list : List ℕ

-- what is wrong with the bytes of a state that blocks are asked of: their length, or their width (31); 0 where nothing is
unfoldable pub state_fault : List ℕ → ℕ
state_fault bytes =
    cond (eqb (length bytes) state_length) (cond (is_width (state_of bytes).width) 0 (code (Refused refusals.NoWidth))) wrong_state

-- the live blocks of these bytes, or the free ones
abbrev pub blocks_at : Bool → List ℕ → List Block
blocks_at asked bytes = blocks asked (state_of bytes).core.setup (state_of bytes).map

-- what the blocks give, where the state's set-up numbers and map keep their sections
unfoldable pub of_blocks : List ℕ → List ℕ → ListLeft → ListLeft
of_blocks bytes list given =
    cond (are_blocks (state_of bytes).core.setup (state_of bytes).map) given
    (record { answer = code (Refused Unsound); list = list })

-- how many blocks are live and how many free, in a list of two
unfoldable pub counts_left : List ℕ → List ℕ → ListLeft
counts_left bytes list =
    cond (eqb (state_fault bytes) 0)
    (cond (eqb (length list) 2)
    (of_blocks bytes list (record { answer = 0; list = length (blocks_at true bytes) ∷ length (blocks_at false bytes) ∷ [] }))
    (record { answer = wrong_list; list = list }))
    (record { answer = state_fault bytes; list = list })

-- address and size of each live block (live is not 0) or free one (live is 0), in a list of just that length
unfoldable pub blocks_left : List ℕ → ℕ → List ℕ → ListLeft
blocks_left bytes live list =
    let found : List Block = blocks_at (not (eqb live 0)) bytes in
    cond (eqb (state_fault bytes) 0)
    (of_blocks bytes list
    (cond (eqb (length list) (2 * length found)) (record { answer = 0; list = numbers_of found })
    (record { answer = wrong_list; list = list })))
    (record { answer = state_fault bytes; list = list })
