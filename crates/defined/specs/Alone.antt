-- A table that is run alone: the engines that steps and runs with this table, and no other, lead to from a fresh engine of any
-- width over any storage. Each call has any input and output, and any limit. The equations are what the engine's own calls promise.
-- Document 02: tickets 8 and 9. Assumes nothing.
use Rattle.std.specs.Prelude.{ℕ, List, ◌≡◌}
use Rattle.machine.specs.State.{fresh}
use Rattle.machine.specs.Sound.{Lent, Engine}
use Rattle.machine.specs.Step.{Outcome, RunOutcome, step, run, engine_of, engine_ran}

pub data Alone (table : List ℕ) : Engine → Type 0 where
  begin : (b : ℕ) (storage : List ℕ) → Alone table (record { state = fresh b; storage = storage })
  stepping : {e : Engine} → Alone table e → (l : Lent) → l.table ≡ table → (o : Outcome) → o ≡ step l e
      → Alone table (engine_of o)
  running : {e : Engine} → Alone table e → (l : Lent) → l.table ≡ table → (limit : ℕ) → (r : RunOutcome) → r ≡ run limit l e
      → Alone table (engine_ran r)
