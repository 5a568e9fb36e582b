-- Demand 3 and ticket 14 on the library's calls: what a host plays with l6_fresh, l6_step, l6_run and l6_extend is a list of the engine's
-- own calls. Assumes nothing.
use Prim.Native.Nat.{ℕ}
use mathlib.Core.Bool.{true}
use mathlib.Core.List.{List, [], ◌∷◌}
use mathlib.Core.Path.{◌≡◌, refl, sym, ap, subst, ◌∙◌}
use borrow.Author.Tests.{eq-eqb}
use lib.ListN.{length}
use Rattle.std.specs.Prelude.{Ok}
use Rattle.word.specs.Word.{is_width}
use Rattle.machine.specs.declared.State.{State}
use Rattle.machine.specs.State.{fresh, fresh_of}
use Rattle.machine.specs.Sound.{Lent, Engine}
use Rattle.machine.specs.Step.{step, run, engine_of, engine_ran}
use Rattle.machine.specs.Extend.{extend, engine_left}
use Rattle.book.specs.Steps.{Event, stepped, extended, with_run}
use Rattle.book.specs.Claim.{Demand3}
use Rattle.book.specs.Alike.{Alike, GoingOn}
use Rattle.engine.specs.Calls as calls
use Rattle.engine.specs.Calls.{Called}
use Rattle.engine.proofs.Corollaries.{demand_3_of_calls, either_order_of_calls}
use Rattle.layout.specs.Layout.{state_length}
use Rattle.player.specs.Calls.{engine_at, StepLeft, after_step, step_left, RunLeft, after_run, run_left}
use Rattle.player.specs.Extending.{ExtendLeft, after_extension, extend_left}
use Rattle.player.specs.Hosting.{Hosted, freshly, step_called, run_called, extend_called}

-- a fresh engine of a width is made
fresh_is : (b : ℕ) → is_width b ≡ true → (fresh_of b).state ≡ fresh b
unfolding fresh_of
fresh_is b w = rw w

fresh_done : (b : ℕ) → is_width b ≡ true → (fresh_of b).answer ≡ Ok tt
unfolding fresh_of
fresh_done b w = rw w

-- an engine by its state and its storage
same_engine : {s t : State} {ws vs : List ℕ} → s ≡ t → ws ≡ vs → ◌≡◌ {A = Engine} (record { state = s; storage = ws }) (record { state = t; storage = vs })
same_engine e f = rw (e, f)

module _ (storage bytes : List ℕ) (long : length bytes ≡ state_length) where
  -- the storage that a call leaves is the engine's
  step_storage : (l : Lent) (report : List ℕ) → length report ≡ 12 → (step_left l storage bytes report).storage ≡ (step l (engine_at bytes storage)).storage
  unfolding step_left after_step
  step_storage l report k = rw (eq-eqb (length bytes) state_length long, eq-eqb (length report) 12 k)

  run_storage : (limit : ℕ) (l : Lent) (count : ℕ) → (run_left limit l storage bytes count).storage ≡ (run limit l (engine_at bytes storage)).storage
  unfolding run_left after_run
  run_storage limit l count = rw (eq-eqb (length bytes) state_length long)

  extend_storage : (last : ℕ) → (extend_left last storage bytes).storage ≡ (extend last (engine_at bytes storage)).storage
  unfolding extend_left after_extension
  extend_storage last = rw (eq-eqb (length bytes) state_length long)

pub hosted_calls : (b : ℕ) (ws : List ℕ) (events : List Event) (storage bytes : List ℕ) → Hosted b ws events storage bytes
    → Called b ws events (engine_at bytes storage)
unfolding engine_of engine_ran engine_left
hosted_calls b ws events storage bytes (freshly w e) =
    subst (λ (s : State). Called b ws [] (record { state = s; storage = ws })) (fresh_is b w ∙ sym e) (calls.begin (fresh_of b) refl (fresh_done b w))
hosted_calls b ws events storage' bytes' (step_called {events = before} {storage = storage} {bytes = bytes} h l report left is long k back) =
    let o = step l (engine_at bytes storage) in
    subst (λ (e : Engine). Called b ws (stepped l (engine_at bytes storage) o ∷ before) e)
    (sym (same_engine back (ap (λ (x : StepLeft). x.storage) is ∙ step_storage storage bytes long l report k)))
    (calls.step_called (hosted_calls b ws before storage bytes h) l o refl)
hosted_calls b ws events storage' bytes' (run_called {events = before} {storage = storage} {bytes = bytes} h l limit count left is long back) =
    let r = run limit l (engine_at bytes storage) in
    subst (λ (e : Engine). Called b ws (with_run limit l (engine_at bytes storage) before) e)
    (sym (same_engine back (ap (λ (x : RunLeft). x.storage) is ∙ run_storage storage bytes long limit l count)))
    (calls.run_called (hosted_calls b ws before storage bytes h) limit l r refl)
hosted_calls b ws events storage' bytes' (extend_called {events = before} {storage = storage} {bytes = bytes} h last left is long back) =
    let x = extend last (engine_at bytes storage) in
    subst (λ (e : Engine). Called b ws (extended last (engine_at bytes storage) x ∷ before) e)
    (sym (same_engine back (ap (λ (y : ExtendLeft). y.storage) is ∙ extend_storage storage bytes long last)))
    (calls.extend_called (hosted_calls b ws before storage bytes h) last x refl)

-- demand 3, of all steps and extensions of a tour that a host plays
pub demand_3_of_hosts : (b : ℕ) (ws : List ℕ) (events : List Event) (storage bytes : List ℕ) → Hosted b ws events storage bytes
    → Demand3 b events (engine_at bytes storage)
demand_3_of_hosts b ws events storage bytes h = demand_3_of_calls b ws events _ (hosted_calls b ws events storage bytes h)

-- ticket 14, of two tours that hosts play
pub either_order_of_hosts : (b c : ℕ) (ws vs : List ℕ) (xs ys : List Event) (storage bytes storage' bytes' : List ℕ)
    → Hosted b ws xs storage bytes → Hosted c vs ys storage' bytes' → Alike (engine_at bytes storage) (engine_at bytes' storage')
    → GoingOn b c (engine_at bytes storage) (engine_at bytes' storage')
either_order_of_hosts b c ws vs xs ys storage bytes storage' bytes' h k =
    either_order_of_calls b c ws vs xs ys _ _ (hosted_calls b ws xs storage bytes h) (hosted_calls c vs ys storage' bytes' k)
