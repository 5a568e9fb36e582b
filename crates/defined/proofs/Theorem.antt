-- Ticket 8's theorem: a table that gets a yes, run alone from a fresh engine, never meets refusal 14, in whatever steps and runs, over any
-- storage, on any input and output and to any limit. Each answer of a list of calls is that of a call after those before it.
-- Assumes nothing.
use Prim.Native.Nat.{ℕ}
use mathlib.Core.List.{List}
use mathlib.Core.Path.{◌≡◌, refl, ap, sym, subst, ◌∙◌}
use Rattle.machine.specs.declared.Answer.TheVariants.{Refused}
use Rattle.machine.specs.declared.Refusal.TheVariants.{UndefinedField}
use Rattle.machine.specs.State.{fresh}
use Rattle.machine.specs.Sound.{Lent, Engine}
use Rattle.machine.specs.Step.{Outcome, RunOutcome, step, run, engine_of, engine_ran}
use Rattle.std.specs.Prelude.{Ok}
use Rattle.defined.specs.Paths.{SomeUse}
use Rattle.defined.specs.Answer.{fields_checked}
use Rattle.defined.specs.Alone.{Alone, begin, stepping, running}
use Rattle.defined.proofs.Standing.{OnPath}
use Rattle.defined.proofs.Never.{step_right}
use Rattle.defined.proofs.Running.{run_right, fresh_on_path}
use Rattle.defined.proofs.Decides.{yes_none}

module _ (table : List ℕ) (none : SomeUse table → ⊥) where
  -- what is lent has this table
  lent_none : (l : Lent) → l.table ≡ table → SomeUse l.table → ⊥
  lent_none l is u = none (subst SomeUse is u)

  -- such engines stand on paths
  alone_on_path : (e : Engine) → Alone table e → OnPath table e.state.core
  unfolding run
  alone_on_path e (begin b storage) = fresh_on_path b table
  alone_on_path e (stepping {e = before} c l is o eq) =
      subst (λ (x : Outcome). OnPath table (engine_of x).state.core) (sym eq)
      (subst (λ t. OnPath t (engine_of (step l before)).state.core) is
      (step_right l (lent_none l is) before (subst (λ t. OnPath t before.state.core) (sym is) (alone_on_path before c))).1)
  alone_on_path e (running {e = before} c l is limit r eq) =
      subst (λ (x : RunOutcome). OnPath table (engine_ran x).state.core) (sym eq)
      (subst (λ t. OnPath t (engine_ran (run limit l before)).state.core) is
      (run_right 0 limit l (lent_none l is) before (subst (λ t. OnPath t before.state.core) (sym is) (alone_on_path before c))).1)

module _ (b : ℕ) (table : List ℕ) (h : fields_checked b table ≡ Ok tt) where
  none : SomeUse table → ⊥
  none = (yes_none b table h).1

  module _ (e : Engine) (c : Alone table e) (l : Lent) (is : l.table ≡ table) where
    on_path : OnPath l.table e.state.core
    on_path = subst (λ t. OnPath t e.state.core) (sym is) (alone_on_path table none e c)

    -- no step answers 14
    pub yes_step : (o : Outcome) → o ≡ step l e → o.stepped.answer ≡ Refused UndefinedField → ⊥
    yes_step o eq k = (step_right l (lent_none table none l is) e on_path).0 (ap (λ (x : Outcome). x.stepped.answer) (sym eq) ∙ k)

    -- no run does
    pub yes_run : (limit : ℕ) (r : RunOutcome) → r ≡ run limit l e → r.ran.answer ≡ Refused UndefinedField → ⊥
    unfolding run
    yes_run limit r eq k =
        (run_right 0 limit l (lent_none table none l is) e on_path).0 (ap (λ (x : RunOutcome). x.ran.answer) (sym eq) ∙ k)

-- as the ticket has it: a run alone from a fresh engine, of whatever width
pub yes_never_undefined : (b c limit : ℕ) (l : Lent) (storage : List ℕ) → fields_checked b l.table ≡ Ok tt
    → (run limit l (record { state = fresh c; storage = storage })).ran.answer ≡ Refused UndefinedField → ⊥
yes_never_undefined b c limit l storage h = yes_run b l.table h _ (begin c storage) l refl limit _ refl
