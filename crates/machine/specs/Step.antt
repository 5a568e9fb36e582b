-- One step and the run: what they give is determined by what is lent and the engine.
-- Document 01: "Steps" and the order of all refusals; document 02, ticket 9. Assumes nothing.
use Rattle.std.specs.Prelude.{ℕ, zero, suc, ◌-◌, true, false, not, ◌&&◌, cond, List, eqb, ltb, get_or}
use Rattle.word.specs.Word.{is_width}
use Rattle.word.specs.Told.{Told, gives, refuses}
use Rattle.block.specs.declared.SetUp.{SetUp}
use Rattle.table.specs.Row.{length_fits, rows, row_at, first_test, first_operation, go_to_of, done}
use Rattle.table.specs.Table.{usable}
use Rattle.machine.specs.declared.Refusal.TheVariants.{TableLength, BadRow, Unsound, BeforeSetUp, SecondSetUp, StackEmpty}
use Rattle.machine.specs.declared.Refusal.TheVariants.{NoWidth}
use Rattle.machine.specs.declared.Answer.{Answer}
use Rattle.machine.specs.declared.Answer.TheVariants.{Running, Finished, Refused}
use Rattle.machine.specs.declared.Place.{Place}
use Rattle.machine.specs.declared.Stepped.{Stepped}
use Rattle.machine.specs.declared.Ran.{Ran}
use Rattle.machine.specs.Answer.{Checked, refused, passed, ◌>>=◌, ◌>>◌, need, is_running, refusal_number}
use Rattle.machine.specs.State.{tests_of, operation_at, exit_of, the_end, no_set_up, is_finished, is_set_up, moved_to, with_calls}
use Rattle.machine.specs.State.{on_core, with_width}
use Rattle.machine.specs.Storage.{no_report, placed}
use Rattle.machine.specs.Sound.{Lent, Engine, sound}
use Rattle.machine.specs.Locate.{world}
use Rattle.machine.specs.Test.{satisfied}
use Rattle.machine.specs.Effects.{Effects, quietly, storage_after}
use Rattle.machine.specs.Operations.{Given, asked, meaning}

-- the next line, or finished if next is 0
unfoldable pub next_line : ℕ → Place
next_line next = cond (eqb next 0) the_end (tests_of next)

-- after an operation: its next, or the line's exit. A satisfied line: its first operation, or its exit if none
unfoldable pub operation_or_exit : ℕ → ℕ → Place
operation_or_exit row line = cond (eqb row 0) (exit_of line) (operation_at row line)

-- going on to a place and nothing else
unfoldable pub going_to : Place → Engine → Effects
going_to p e = quietly (on_core (moved_to p) e.state)

-- the step at a line's tests
unfoldable pub tests_step : ℕ → Lent → Engine → Checked Effects
tests_step b l e = do
  let line = e.state.core.place.line
  let row = row_at l.table line
  need (usable 1 b l.table line) BadRow
  holds ← satisfied b l.table (world e) row.code (rows l.table) (first_test row)
  passed (going_to (cond holds (operation_or_exit (first_operation row) line) (next_line row.next)) e)

-- set-up happens once (13) and precedes every other operation (12)
unfoldable pub in_turn : ℕ → Engine → Checked (Unit {0})
in_turn code e =
    cond (eqb code 1) (need (not (is_set_up e.state.core)) SecondSetUp) (need (is_set_up e.state.core) BeforeSetUp)

-- what the operation at the engine's place is given: its own row and no other
unfoldable pub given : Lent → Engine → Given
given l e =
    let place = e.state.core.place in
    let row = row_at l.table place.row in
    record {
      row = row;
      lent = l;
      engine = record {
        state = on_core (moved_to (operation_or_exit row.next place.line)) e.state;
        storage = e.storage;
      };
    }

-- the step of an operation
unfoldable pub operation_step : ℕ → Lent → Engine → Checked Effects
operation_step b l e = do
  let place = e.state.core.place
  need (usable 3 b l.table place.row) BadRow
  in_turn (row_at l.table place.row).code e
  meaning (row_at l.table place.row).code b (given l e)

-- DONE pops the place that a DO saved: 20
unfoldable pub return : Engine → Checked Effects
return e = do
  let stack = e.state.core.calls
  need (ltb 0 stack.count) StackEmpty
  passed
      (quietly
      (on_core
      (λ c. moved_to (get_or stack.entries (stack.count - 1) the_end)
      (with_calls (record { entries = stack.entries; count = stack.count - 1 }) c))
      e.state))

-- the step at a line's exit: the go-to, else the next line, else finished
unfoldable pub exit_step : ℕ → Lent → Engine → Checked Effects
exit_step b l e = do
  let line = e.state.core.place.line
  let row = row_at l.table line
  need (usable 1 b l.table line) BadRow
  cond (eqb (go_to_of row) done) (return e)
      (passed (going_to (cond (eqb (go_to_of row) 0) (next_line row.next) (tests_of (go_to_of row))) e))

-- what a step of a sound engine that is not finished does: 1, then as its place says
unfoldable pub plan : ℕ → Lent → Engine → Checked Effects
plan b l e = do
  need (length_fits l.table) TableLength
  let kind = e.state.core.place.kind
  cond (eqb kind 0) (tests_step b l e) (cond (eqb kind 1) (operation_step b l e) (exit_step b l e))

-- what a step leaves: what it returns, and the lent storage and output
pub record Outcome : Type 0 where
  pub stepped : Stepped
  pub storage : List ℕ
  pub output : List ℕ

-- a refused step, and a step of a finished engine, change nothing and report zeros
unfoldable pub unchanged : Answer → Lent → Engine → Outcome
unchanged answer l e =
    record {
      stepped = record { state = e.state; answer = answer; report = no_report };
      storage = e.storage;
      output = l.output;
    }

-- any other step carries its effects out; the width stays
unfoldable pub carried_out : ℕ → Effects → Lent → Engine → Outcome
carried_out b x l e =
    record {
      stepped = record {
        state = with_width e.state.width x.state;
        answer = cond (is_finished x.state.core.place) Finished Running;
        report = x.report;
      };
      storage = storage_after b x e.storage;
      output = placed e.state.core.written x.printed l.output;
    }

unfoldable pub outcome : ℕ → Checked Effects → Lent → Engine → Outcome
outcome b (refused r) l e = unchanged (Refused r) l e
outcome b (passed x) l e = carried_out b x l e

-- one step of words of b bits, in the order 11, finished, then the plan
unfoldable pub step_at : ℕ → Lent → Engine → Outcome
step_at b l e =
    cond (sound b l e)
    (cond (is_finished e.state.core.place) (unchanged Finished l e) (outcome b (plan b l e) l e))
    (unchanged (Refused Unsound) l e)

-- one step: it goes by the state's width, and is refused by 31, before anything else, where that is none
unfoldable pub step : Lent → Engine → Outcome
step l e = cond (is_width e.state.width) (step_at e.state.width l e) (unchanged (Refused NoWidth) l e)

-- a step's answer in numbers: the plan's, and before it 31, 11 and finished
unfoldable pub plan_told : Checked Effects → Told ℕ
plan_told (refused r) = refuses (refusal_number r)
plan_told (passed x) = gives (cond (is_finished x.state.core.place) 1 0)

unfoldable pub step_told : Lent → Engine → Told ℕ
step_told l e =
    let b = e.state.width in
    cond (is_width b)
    (cond (sound b l e) (cond (is_finished e.state.core.place) (gives 1) (plan_told (plan b l e))) (refuses 11))
    (refuses 31)

-- the engine that a step leaves
unfoldable pub engine_of : Outcome → Engine
engine_of o = record { state = o.stepped.state; storage = o.storage }

-- the numbers of the set-up at the engine's place, where that is an operation 1
unfoldable pub set_up_at : Lent → Engine → SetUp
set_up_at l e =
    cond (eqb e.state.core.place.kind 1 && eqb (row_at l.table e.state.core.place.row).code 1)
    (asked (row_at l.table e.state.core.place.row))
    no_set_up

-- what a run leaves
pub record RunOutcome : Type 0 where
  pub ran : Ran
  pub storage : List ℕ
  pub output : List ℕ

-- a run that ends with this answer after count steps
unfoldable pub ending : Answer → ℕ → Engine → List ℕ → RunOutcome
ending answer count e output =
    record { ran = record { state = e.state; answer = answer; count = count }; storage = e.storage; output = output }

-- a run takes a step limit and is that many steps, or fewer up to a finish or refusal (counted); earlier steps stand.
-- Count steps came before
unfoldable pub run_from : ℕ → ℕ → Lent → Engine → RunOutcome
run_from count zero l e = ending Running count e l.output
run_from count (suc limit) l e =
    let o : Outcome = step l e in
    elim (is_running o.stepped.answer) [
      | true ↦
          run_from (suc count) limit (record { table = l.table; input = l.input; output = o.output }) (engine_of o)
      | false ↦ ending o.stepped.answer (suc count) (engine_of o) o.output
    ]

unfoldable pub run : ℕ → Lent → Engine → RunOutcome
run = run_from 0

-- a run's answer in numbers: that of its last step, running where it takes none
unfoldable pub run_told : ℕ → Lent → Engine → Told ℕ
run_told zero l e = gives 0
run_told (suc limit) l e =
    let o : Outcome = step l e in
    elim (is_running o.stepped.answer) [
      | true ↦ run_told limit (record { table = l.table; input = l.input; output = o.output }) (engine_of o)
      | false ↦ step_told l e
    ]

-- the engine that a run leaves
unfoldable pub engine_ran : RunOutcome → Engine
engine_ran r = record { state = r.ran.state; storage = r.storage }
