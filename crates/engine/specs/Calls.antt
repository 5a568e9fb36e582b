-- Lists of calls of the engine's own step and run and of extension's own extend, as their contracts have them, from a fresh engine
-- over one storage that only the calls write.
-- Document 01: demand 3; document 02, tickets 9 and 11. Assumes nothing.
use Rattle.std.specs.Prelude.{◌≡◌, ℕ, List, [], ◌∷◌, Ok}
use Rattle.machine.specs.declared.Fresh.{Fresh}
use Rattle.machine.specs.State.{fresh_of}
use Rattle.machine.specs.Sound.{Lent, Engine}
use Rattle.machine.specs.Step.{Outcome, RunOutcome, step, run, engine_of, engine_ran}
use Rattle.machine.specs.Extend.{Extension, extend, engine_left}
use Rattle.book.specs.Steps.{Event, stepped, extended, with_run}

-- the steps and extensions of these calls, newest first, lead to this engine: the first call has the fresh engine that was made
-- when width b was asked for, over the storage ws, each other the state and storage that the one before it left; each may be lent
-- any table, input and output, a run any limit, and an extension any last address
pub data Called (b : ℕ) (ws : List ℕ) : List Event → Engine → Type 0 where
  begin : (f : Fresh) → f ≡ fresh_of b → f.answer ≡ Ok tt → Called b ws [] (record { state = f.state; storage = ws })
  step_called : {events : List Event} {e : Engine} → Called b ws events e → (l : Lent) (o : Outcome) → o ≡ step l e
      → Called b ws (stepped l e o ∷ events) (engine_of o)
  run_called : {events : List Event} {e : Engine} → Called b ws events e → (limit : ℕ) (l : Lent) (r : RunOutcome)
      → r ≡ run limit l e → Called b ws (with_run limit l e events) (engine_ran r)
  extend_called : {events : List Event} {e : Engine} → Called b ws events e → (last : ℕ) (x : Extension) → x ≡ extend last e
      → Called b ws (extended last e x ∷ events) (engine_left x)
