-- What follows of the engine's own step and run from their contracts, the equations o ≡ step l e and r ≡ run limit l e,
-- which are demand 2: a refused step and a finished engine change nothing, what is delivered is the lowest aligned run, and demand 3
-- holds after every list of calls, extensions among them, of the steps inside runs too. Assumes nothing.
use native.Mathlib.Omega.{arith}
use Rattle.std.specs.Prelude.{◌≡◌, ℕ, ◌/◌, ◌^◌, ◌<◌, true, cond, List, [], ◌∷◌, Result, Ok, Err}
use mathlib.Core.Path.{refl, sym, ap, subst, ◌∙◌}
use Rattle.word.specs.Word.{is_width}
use Rattle.word.proofs.Tests.{by_test}
use Rattle.machine.specs.declared.State.{State}
use Rattle.machine.specs.declared.Fresh.{Fresh}
use Rattle.machine.specs.declared.NoWidth.{NoWidth}
use Rattle.machine.specs.declared.Refusal.{Refusal}
use Rattle.machine.specs.declared.Answer.TheVariants.{Finished, Refused}
use Rattle.machine.specs.State.{fresh, fresh_of, is_finished}
use Rattle.machine.specs.Sound.{Lent, Engine, sound}
use Rattle.machine.specs.declared.Location.{Location}
use Rattle.machine.specs.Locate.{Value, world, contents}
use Rattle.machine.specs.Converting.{Clears, Whole, left}
use Rattle.machine.proofs.Converting.{decimal_steps}
use Rattle.machine.specs.Step.{Outcome, RunOutcome, step, engine_of, engine_ran}
use Rattle.machine.proofs.Steps.{AsBefore, DeliversRun, refused_changes_nothing, finished_stays, delivered_run}
use Rattle.machine.specs.Extend.{Extension, engine_left}
use Rattle.book.specs.Steps.{Event, stepped, extended, Leads, begin, after, after_extension_lem}
use Rattle.book.specs.Claim.{Demand3}
use Rattle.book.specs.Alike.{Alike, GoingOn}
use Rattle.book.proofs.Alike.{either_order}
use Rattle.book.proofs.Demand3.{demand_3}
use Rattle.book.proofs.Runs.{run_leads}
use Rattle.engine.specs.Calls as calls
use Rattle.engine.specs.Calls.{Called, step_called, run_called, extend_called}

module _ (l : Lent) (e : Engine) (o : Outcome) (is : o ≡ step l e) where
  -- demand 1: a refused step changes no state, storage word or output byte, and reports zeros
  pub refused_call : (r : Refusal) → o.stepped.answer ≡ Refused r → AsBefore l e o
  refused_call r k =
      subst (AsBefore l e) (sym is)
      (refused_changes_nothing l e r (ap (λ (o : Outcome). o.stepped.answer) (sym is) ∙ k))

  -- a finished engine answers finished and changes nothing
  pub finished_call : is_width e.state.width ≡ true → sound e.state.width l e ≡ true → is_finished e.state.core.place ≡ true
      → (o.stepped.answer ≡ Finished) × AsBefore l e o
  finished_call wide fine end = subst (λ (o : Outcome). (o.stepped.answer ≡ Finished) × AsBefore l e o) (sym is) (finished_stays l e wide fine end)

  -- a get or duplicate that is not refused delivers the lowest aligned run of its size outside the live blocks
  pub delivering_call : DeliversRun e o.stepped.report
  delivering_call = subst (λ (o : Outcome). DeliversRun e o.stepped.report) (sym is) (delivered_run l e)

-- numbers below 1,000,000 at 36 bits, and below 100,000,000 at 48, survive conversion to characters and back: a call that carries out a 29, and any
-- calls later one that carries out a 27 of what the first has left in a whole word
module _ {b n : ℕ} (small : n < 10 ^ (b / 6)) {l₁ l₂ : Lent} {e₁ e₂ : Engine} {a₁ a₂ : Location} {x₁ x₂ : Value} {o₁ o₂ : Outcome}
    (is₁ : o₁ ≡ step l₁ e₁) (is₂ : o₂ ≡ step l₂ e₂) where
  pub decimal_calls : Clears b 29 l₁ e₁ a₁ x₁ → x₁.value ≡ n → Whole b e₁ a₁ → Clears b 27 l₂ e₂ a₂ x₂
      → x₂.value ≡ contents b (world (engine_of o₁)) a₁ → Whole b e₂ a₂ → contents b (world (engine_of o₂)) a₂ ≡ n
  unfolding left
  decimal_calls c₁ v₁ w₁ c₂ v₂ w₂ =
      ap (λ (o : Outcome). contents b (world (engine_of o)) a₂) is₂
      ∙ (decimal_steps small c₁ v₁ w₁ c₂ (v₂ ∙ ap (λ (o : Outcome). contents b (world (engine_of o)) a₁) is₁) w₂).holds

-- a fresh engine that was made has the width that was asked for
made_wide : (b : ℕ) (f : Fresh) → f ≡ fresh_of b → f.answer ≡ Ok tt → (is_width b ≡ true) × (f.state ≡ fresh b)
unfolding fresh_of
made_wide b f is done =
    by_test (λ t. (f ≡ cond t (record { state = fresh b; answer = Ok tt }) (record { state = fresh 0; answer = Err (record {}) }))
    → (t ≡ true) × (f.state ≡ fresh b))
    (is_width b)
    (λ _ e. (refl, ap (λ (g : Fresh). g.state) e))
    (λ _ e. let other : ◌≡◌ {A = Result (Unit {0}) NoWidth} (Err (record {})) (Ok tt) = sym (ap (λ (g : Fresh). g.answer) e) ∙ done in cc) is

module _ (b : ℕ) (ws : List ℕ) where
  calls_lead : (events : List Event) (e : Engine) → Called b ws events e → Leads b ws events e
  calls_lead events e (calls.begin f is done) =
      let (wide, same) = made_wide b f is done in
      subst (λ (s : State). Leads b ws [] (record { state = s; storage = ws })) (sym same) (begin wide)
  calls_lead events e (step_called {events = before} {e = from} c l o is) =
      subst (λ (o : Outcome). Leads b ws (stepped l from o ∷ before) (engine_of o)) (sym is) (after (calls_lead _ _ c) l)
  calls_lead events e (run_called c limit l r is) =
      subst (λ (r : RunOutcome). Leads b ws events (engine_ran r)) (sym is)
      (run_leads b ws limit l _ (calls_lead _ _ c))
  calls_lead events e (extend_called {events = before} {e = from} c last x is) =
      subst (λ (x : Extension). Leads b ws (extended last from x ∷ before) (engine_left x)) (sym is)
      (after_extension_lem (calls_lead _ _ c) last)

  -- demand 3, of every list of calls of the engine's own step and run and of extend: of all their steps and extensions
  pub demand_3_of_calls : (events : List Event) (e : Engine) → Called b ws events e → Demand3 b events e
  demand_3_of_calls events e c = demand_3 b ws events e (calls_lead events e c)

-- ticket 14, of any two lists of such calls
pub either_order_of_calls : (b c : ℕ) (ws vs : List ℕ) (xs ys : List Event) (e f : Engine) → Called b ws xs e → Called c vs ys f → Alike e f
    → GoingOn b c e f
either_order_of_calls b c ws vs xs ys e f p q = either_order b c ws vs xs ys e f (calls_lead b ws xs e p) (calls_lead c vs ys f q)
