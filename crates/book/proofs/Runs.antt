-- The steps of a run are a list of steps: demand 3 holds of them. Assumes nothing.
use Prim.Native.Nat.{ℕ, zero, suc}
use mathlib.Core.Bool.{true, false}
use mathlib.Core.List.{List, ◌∷◌}
use Rattle.machine.specs.Answer.{is_running}
use Rattle.machine.specs.Sound.{Lent, Engine}
use Rattle.machine.specs.Step.{Outcome, step, engine_of, ending, run_from, run, engine_ran}
use Rattle.book.specs.Steps.{Event, stepped, Leads, after, with_run}
use Rattle.book.specs.Claim.{Demand3}
use Rattle.book.proofs.Demand3.{demand_3}

-- a run goes on from the engine that events lead to, and its steps lead to the engine that it leaves
module _ (b : ℕ) (ws : List ℕ) where
  run_from_leads : (count limit : ℕ) (l : Lent) (e : Engine) {events : List Event} → Leads b ws events e
      → Leads b ws (with_run limit l e events) (engine_ran (run_from count limit l e))
  unfolding with_run run_from engine_ran ending engine_of
  run_from_leads count zero l e so_far = so_far
  run_from_leads count (suc limit) l e {events} so_far =
      let o : Outcome = step l e in
      let now = after so_far l in
      let rest : Lent = record { table = l.table; input = l.input; output = o.output } in
      elim (is_running o.stepped.answer) as (λ t. Leads b ws
      (elim t [
        | true ↦ with_run limit rest (engine_of o) (stepped l e o ∷ events)
        | false ↦ stepped l e o ∷ events
      ])
      (engine_ran (elim t [
        | true ↦ run_from (suc count) limit rest (engine_of o)
        | false ↦ ending o.stepped.answer (suc count) (engine_of o) o.output
      ]))) [
        | true ↦ run_from_leads (suc count) limit rest (engine_of o) now
        | false ↦ now
      ]

  pub run_leads : (limit : ℕ) (l : Lent) (e : Engine) {events : List Event} → Leads b ws events e
      → Leads b ws (with_run limit l e events) (engine_ran (run limit l e))
  unfolding run
  run_leads = run_from_leads 0

  -- demand 3, of a list of steps with those of a run after it; a run of a lower limit gives each list up to a step inside
  pub demand_3_of_runs : (limit : ℕ) (l : Lent) (e : Engine) {events : List Event} → Leads b ws events e
      → Demand3 b (with_run limit l e events) (engine_ran (run limit l e))
  demand_3_of_runs limit l e so_far = demand_3 b ws _ _ (run_leads limit l e so_far)
