-- A tour that a host plays with any tables: what l6_fresh, l6_step, l6_run and l6_extend leave of a storage and of a state's bytes,
-- by their promises, with the steps and extensions that they took, newest first. Document 02, tickets 9, 11 and 14. Assumes
-- nothing.
use Rattle.std.specs.Prelude.{ℕ, List, [], ◌∷◌, true, ◌≡◌, length}
use Rattle.word.specs.Word.{is_width}
use Rattle.machine.specs.State.{fresh}
use Rattle.machine.specs.Sound.{Lent}
use Rattle.machine.specs.Step.{step, run}
use Rattle.machine.specs.Extend.{extend}
use Rattle.book.specs.Steps.{Event, stepped, extended, with_run}
use Rattle.layout.specs.Layout.{state_length, state_of}
use Rattle.player.specs.Calls.{engine_at, StepLeft, RunLeft, step_left, run_left}
use Rattle.player.specs.Extending.{ExtendLeft, extend_left}

-- after l6_fresh of width b, which answered 0, over the storage ws, and after each call, with any table, input, output, limit and
-- last address
pub data Hosted (b : ℕ) (ws : List ℕ) : List Event → List ℕ → List ℕ → Type 0 where
  freshly : {bytes : List ℕ} → is_width b ≡ true → state_of bytes ≡ fresh b → Hosted b ws [] ws bytes
  step_called : {events : List Event} {storage bytes : List ℕ} → Hosted b ws events storage bytes → (l : Lent) (report : List ℕ)
      → (left : StepLeft) → left ≡ step_left l storage bytes report → length bytes ≡ state_length → length report ≡ 12
      → state_of left.state ≡ (step l (engine_at bytes storage)).stepped.state
      → Hosted b ws (stepped l (engine_at bytes storage) (step l (engine_at bytes storage)) ∷ events) left.storage left.state
  run_called : {events : List Event} {storage bytes : List ℕ} → Hosted b ws events storage bytes → (l : Lent) (limit count : ℕ)
      → (left : RunLeft) → left ≡ run_left limit l storage bytes count → length bytes ≡ state_length
      → state_of left.state ≡ (run limit l (engine_at bytes storage)).ran.state
      → Hosted b ws (with_run limit l (engine_at bytes storage) events) left.storage left.state
  extend_called : {events : List Event} {storage bytes : List ℕ} → Hosted b ws events storage bytes → (last : ℕ)
      → (left : ExtendLeft) → left ≡ extend_left last storage bytes → length bytes ≡ state_length
      → state_of left.state ≡ (extend last (engine_at bytes storage)).extended.state
      → Hosted b ws (extended last (engine_at bytes storage) (extend last (engine_at bytes storage)) ∷ events) left.storage
      left.state
