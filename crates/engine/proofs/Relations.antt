-- A step is a walk of one, and a run is a walk without its report. Assumes nothing.
use Rattle.std.specs.Prelude.{◌≡◌, ℕ, zero, suc, Bool, true, false}
use native.Mathlib.Omega.{arith}
use mathlib.Core.Path.{refl, sym, ap}
use Rattle.machine.specs.declared.Answer.{Answer}
use Rattle.machine.specs.declared.Answer.TheVariants.{Running, Finished, Refused}
use Rattle.machine.specs.Answer.{is_running}
use Rattle.machine.specs.Sound.{Lent, Engine}
use Rattle.machine.specs.Step.{Outcome, step, engine_of, RunOutcome, ending as ends, run_from}
use Rattle.engine.specs.Walking.{Walk, ending, lent_after, walk_from}

-- a walk without its report, and without its count
abbrev pub ran_of : Walk → RunOutcome
ran_of w =
    record {
      ran = record { state = w.walked.state; answer = w.walked.answer; count = w.walked.count };
      storage = w.storage;
      output = w.output;
    }

abbrev pub stepped_of : Walk → Outcome
stepped_of w =
    record {
      stepped = record { state = w.walked.state; answer = w.walked.answer; report = w.walked.report };
      storage = w.storage;
      output = w.output;
    }

pub walk_step : (l : Lent) (e : Engine) → stepped_of (walk_from 0 0 l e) ≡ step l e
unfolding walk_from ending
walk_step l e = refl

running : (a : Answer) → is_running a ≡ true → a ≡ Running
unfolding is_running
running Running h = refl
running Finished h = let never : ◌≡◌ {A = ℕ} 0 1 = cc in absurd (omega arith)
running (Refused r) h = let never : ◌≡◌ {A = ℕ} 0 1 = cc in absurd (omega arith)

-- the turns of both, by whether the step goes on
pick : {A : Type 0} → Bool → A → A → A
pick t x y = elim t [ true ↦ x | false ↦ y ]

pub walk_run : (count more : ℕ) (l : Lent) (e : Engine) → run_from count (suc more) l e ≡ ran_of (walk_from count more l e)
unfolding walk_from ending run_from ends engine_of
walk_run count zero l e =
    let o : Outcome = step l e in
    elim (is_running o.stepped.answer) as (λ t. is_running o.stepped.answer ≡ t
    → (elim t [
      | true ↦ run_from (suc count) 0 (lent_after l o) (engine_of o)
      | false ↦ ends o.stepped.answer (suc count) (engine_of o) o.output
    ]) ≡ ran_of (ending (suc count) o)) [
      | true ↦ λ k. ap (λ (a : Answer). ends a (suc count) (engine_of o) o.output) (sym (running o.stepped.answer k))
      | false ↦ λ k. refl
    ] refl
walk_run count (suc more) l e =
    let o : Outcome = step l e in
    elim (is_running o.stepped.answer) as (λ t.
    (elim t [
      | true ↦ run_from (suc count) (suc more) (lent_after l o) (engine_of o)
      | false ↦ ends o.stepped.answer (suc count) (engine_of o) o.output
    ]) ≡ ran_of (elim t [
      | true ↦ walk_from (suc count) more (lent_after l o) (engine_of o)
      | false ↦ ending (suc count) o
    ])) [
      | true ↦ walk_run (suc count) more (lent_after l o) (engine_of o)
      | false ↦ refl
    ]
