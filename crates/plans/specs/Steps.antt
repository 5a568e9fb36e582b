-- The plan of a step, by what it sees, the table and the place. Assumes nothing.
use Rattle.std.specs.Prelude.{ℕ, not, cond, List, eqb, ltb, length}
use Rattle.table.specs.declared.Row.{Row}
use Rattle.table.specs.Row.{rows, row_at, first_test, first_operation, go_to_of, done}
use Rattle.table.specs.Table.{usable}
use Rattle.machine.specs.declared.Place.{Place}
use Rattle.machine.specs.declared.Refusal.TheVariants.{BadRow, BeforeSetUp, SecondSetUp, StackEmpty}
use Rattle.machine.specs.Answer.{Checked, passed, ◌>>=◌, ◌>>◌, need}
use Rattle.machine.specs.State.{tests_of, the_end}
use Rattle.machine.specs.Locate.{World}
use Rattle.machine.specs.Test.{satisfied}
use Rattle.machine.specs.Step.{next_line, operation_or_exit}
use Rattle.operations.specs.Deeds.{Deed}
use Rattle.operations.specs.Deeds.{Nothing, Return}
use Rattle.operations.specs.Seen.{Sight}
use Rattle.operations.specs.Plans.{set_up_plan, plan_of}
use Rattle.plans.specs.Answers.{Plan}

-- going to a place and nothing else
abbrev pub going_to : Place → Plan
going_to p = record { to = p; action = Nothing }

-- the step at a line's tests
unfoldable pub tests_plan : ℕ → World → List ℕ → ℕ → Checked Plan
tests_plan b w table line = do
  let row = row_at table line
  need (usable 1 b table line) BadRow
  holds ← satisfied b table w row.code (rows table) (first_test row)
  passed (going_to (cond holds (operation_or_exit (first_operation row) line) (next_line row.next)))

-- a set-up happens once (13) and precedes every other operation (12)
unfoldable pub ordered_plan : ℕ → Sight → Row → Checked Deed
ordered_plan b s row =
    cond (eqb row.code 1) (need (eqb s.world.setup.d 0) SecondSetUp >> set_up_plan (length s.world.storage) row)
    (need (not (eqb s.world.setup.d 0)) BeforeSetUp >> plan_of b s row)

-- the step of an operation
unfoldable pub operation_plan : ℕ → Sight → List ℕ → Place → Checked Plan
operation_plan b s table place = do
  need (usable 3 b table place.row) BadRow
  x ← ordered_plan b s (row_at table place.row)
  passed (record { to = operation_or_exit (row_at table place.row).next place.line; action = x })

-- the step at a line's exit, with so many calls to return from
unfoldable pub exit_plan : ℕ → ℕ → List ℕ → ℕ → Checked Plan
exit_plan b calls table line = do
  let row = row_at table line
  need (usable 1 b table line) BadRow
  cond (eqb (go_to_of row) done)
      (need (ltb 0 calls) StackEmpty >> passed (record { to = the_end; action = Return }))
      (passed (going_to (cond (eqb (go_to_of row) 0) (next_line row.next) (tests_of (go_to_of row)))))

-- the step at a place, with a table of the right length
unfoldable pub step_plan : ℕ → Sight → List ℕ → Place → Checked Plan
step_plan b s table place =
    cond (eqb place.kind 0) (tests_plan b s.world table place.line)
    (cond (eqb place.kind 1) (operation_plan b s table place) (exit_plan b s.counts.calls table place.line))
