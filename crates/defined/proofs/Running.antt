-- A run of a table that gets a yes, alone from a fresh engine, is never refused by 14. Assumes nothing.
use Prim.Native.Nat.{ℕ, zero, suc}
use native.Mathlib.Omega.{arith}
use mathlib.Core.Bool.{true, false}
use mathlib.Core.List.{List}
use mathlib.Core.Path.{◌≡◌, refl}
use lib.ListN.{length-replicate}
use Rattle.machine.specs.declared.Answer.TheVariants.{Refused}
use Rattle.machine.specs.declared.Refusal.TheVariants.{UndefinedField}
use Rattle.machine.specs.Answer.{is_running}
use Rattle.machine.specs.State.{tests_of, undefined, fresh}
use Rattle.machine.specs.Sound.{Lent, Engine}
use Rattle.machine.specs.Step.{Outcome, step, engine_of, ending, run_from}
use Rattle.machine.specs.Step.{RunOutcome, engine_ran}
use Rattle.machine.proofs.Checks.{clash}
use Rattle.defined.specs.Paths.{no_field, start}
use Rattle.defined.specs.Paths.{SomeUse}
use Rattle.defined.proofs.Standing.{at_line, OnPath}
use Rattle.defined.proofs.Never.{step_right}

-- a fresh engine stands on a path
pub fresh_on_path : (b : ℕ) (table : List ℕ) → OnPath table (fresh b).core
unfolding fresh tests_of no_field
fresh_on_path b table =
    record {
      standing = at_line refl no_field start (λ n k. clash k);
      names = length-replicate 36 undefined;
      room = length-replicate 128 (tests_of 1);
      saved = λ i less. absurd (omega arith);
    }

-- a run of a table in which no path uses an undefined field, from an engine that stands on a path
abbrev Ran : List ℕ → RunOutcome → Type 0
Ran table r = (r.ran.answer ≡ Refused UndefinedField → ⊥) × OnPath table (engine_ran r).state.core

pub run_right : (count limit : ℕ) (l : Lent) → (SomeUse l.table → ⊥) → (e : Engine) → OnPath l.table e.state.core
    → Ran l.table (run_from count limit l e)
unfolding run_from ending engine_ran
run_right count zero l none e h = (λ k. let never : ◌≡◌ {A = ℕ} 0 1 = cc in omega arith, h)
run_right count (suc limit) l none e h =
    let o : Outcome = step l e in
    let (fine, on) = step_right l none e h in
    let rest : Lent = record { table = l.table; input = l.input; output = o.output } in
    elim (is_running o.stepped.answer) as (λ t. Ran l.table
    (elim t as (λ _. RunOutcome) [
      | true ↦ run_from (suc count) limit rest (engine_of o)
      | false ↦ ending o.stepped.answer (suc count) (engine_of o) o.output
    ])) [
      | true ↦ run_right (suc count) limit rest none (engine_of o) on
      | false ↦ (fine, on)
    ]
