-- A tour that a host plays with one table alone: what l6_fresh, l6_step and l6_run leave of a storage and of a state's bytes, by
-- their promises. Assumes nothing.
use Rattle.std.specs.Prelude.{ℕ, List, ◌≡◌, length}
use Rattle.machine.specs.State.{fresh}
use Rattle.machine.specs.Sound.{Lent}
use Rattle.machine.specs.Step.{step, run}
use Rattle.layout.specs.Layout.{state_length, state_of}
use Rattle.player.specs.Calls.{engine_at, StepLeft, RunLeft, step_left, run_left}

-- after l6_fresh of any width, over any storage, and after each l6_step and l6_run with this table, any input and output and any
-- limit
pub data Playing (table : List ℕ) : List ℕ → List ℕ → Type 0 where
  freshly : (b : ℕ) {storage bytes : List ℕ} → state_of bytes ≡ fresh b → Playing table storage bytes
  step_called : {storage bytes : List ℕ} → Playing table storage bytes → (l : Lent) → l.table ≡ table → (report : List ℕ)
      → (left : StepLeft) → left ≡ step_left l storage bytes report → length bytes ≡ state_length → length report ≡ 12
      → state_of left.state ≡ (step l (engine_at bytes storage)).stepped.state → Playing table left.storage left.state
  run_called : {storage bytes : List ℕ} → Playing table storage bytes → (l : Lent) → l.table ≡ table → (limit count : ℕ)
      → (left : RunLeft) → left ≡ run_left limit l storage bytes count → length bytes ≡ state_length
      → state_of left.state ≡ (run limit l (engine_at bytes storage)).ran.state → Playing table left.storage left.state
