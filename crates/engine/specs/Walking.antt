-- A walk: steps up to a number of them, or fewer up to a finish or refusal, with the report of the last. A step is a walk of one,
-- and a run is a walk without its report. Assumes nothing.
use Rattle.std.specs.Prelude.{ℕ, zero, suc, true, false, List}
use Rattle.machine.specs.declared.State.{State}
use Rattle.machine.specs.declared.Answer.{Answer}
use Rattle.machine.specs.declared.Report.{Report}
use Rattle.machine.specs.Answer.{is_running}
use Rattle.machine.specs.Sound.{Lent, Engine}
use Rattle.machine.specs.Step.{Outcome, step, engine_of}
use Rattle.engine.specs.declared.Walked.{Walked}

-- what a walk leaves: what it returns, and the lent storage and output
pub record Walk : Type 0 where
  pub walked : Walked
  pub storage : List ℕ
  pub output : List ℕ

-- a walk that returns so
abbrev pub walked_to : State → Answer → Report → ℕ → Walked
walked_to state answer report count = record { state = state; answer = answer; report = report; count = count }

abbrev pub walks : State → Answer → Report → ℕ → List ℕ → List ℕ → Walk
walks state answer report count storage output =
    record {
      walked = record { state = state; answer = answer; report = report; count = count };
      storage = storage;
      output = output;
    }

-- a walk that ends with this step, after so many
unfoldable pub ending : ℕ → Outcome → Walk
ending count o = walks o.stepped.state o.stepped.answer o.stepped.report count o.storage o.output

-- what is lent to the next step
abbrev pub lent_after : Lent → Outcome → Lent
lent_after l o = record { table = l.table; input = l.input; output = o.output }

-- a step and at most so many more, after count of them
unfoldable pub walk_from : ℕ → ℕ → Lent → Engine → Walk
walk_from count zero l e = ending (suc count) (step l e)
walk_from count (suc more) l e =
    let o : Outcome = step l e in
    elim (is_running o.stepped.answer) [
      | true ↦ walk_from (suc count) more (lent_after l o) (engine_of o)
      | false ↦ ending (suc count) o
    ]
