-- What the parts of a call come to, put together. Assumes nothing.
use Prim.Native.Nat.{ℕ}
use mathlib.Core.Bool.{Bool, true, false, cond}
use mathlib.Core.List.{List}
use mathlib.Core.Path.{◌≡◌, refl, sym, ap, ◌∙◌}
use borrow.Author.Tests.{eq-eqb, ne_eqb}
use lib.Dec.{eqb}
use lib.ListN.{length}
use Rattle.word.specs.Told.{number}
use Rattle.word.specs.Word.{is_width}
use Rattle.machine.specs.declared.Ran.{Ran}
use Rattle.machine.specs.declared.State.{State}
use Rattle.machine.specs.declared.Stepped.{Stepped}
use Rattle.machine.specs.declared.Fresh.{Fresh}
use Rattle.machine.specs.State.{fresh, fresh_of, told_fresh, is_finished}
use Rattle.machine.specs.Sound.{Lent}
use Rattle.machine.specs.Step.{Outcome, RunOutcome, step, run}
use Rattle.layout.specs.Layout.{state_length, bytes_of_state, state_of}
use Rattle.player.specs.Calls.{code, moved, bytes_after, engine_at, FreshLeft, fresh_left, numbers_of_report, StepLeft, after_step}
use Rattle.player.specs.Calls.{no_step, step_left, RunLeft, after_run, no_run, run_left, wrong_state, unreported}
use Rattle.player.proofs.Moving.{step_kept, run_kept}

-- bytes that were written, or left, tell the state afterwards
told : (t : Bool) (bytes : List ℕ) (state : State) {after : List ℕ} → after ≡ cond t (bytes_of_state state) bytes
    → (t ≡ true → state_of (bytes_of_state state) ≡ state) → (t ≡ false → state ≡ state_of bytes) → state_of after ≡ state
told true bytes state is back kept = ap state_of is ∙ back refl
told false bytes state is back kept = ap state_of is ∙ sym (kept refl)

module _ (l : Lent) (storage bytes report : List ℕ) where
  pub step_short : (length bytes ≡ state_length → ⊥) → no_step wrong_state l storage bytes report ≡ step_left l storage bytes report
  unfolding step_left
  step_short h = rw (ne_eqb (length bytes) state_length h)

  pub step_unreported : length bytes ≡ state_length → (length report ≡ 12 → ⊥) → {answer : ℕ} → answer ≡ unreported bytes
      → no_step answer l storage bytes report ≡ step_left l storage bytes report
  unfolding step_left
  step_unreported h k is = rw (eq-eqb (length bytes) state_length h, ne_eqb (length report) 12 k, is)

  -- what the engine's step leaves, of a state that was read, and what is made of it
  module _ {before : State} {stepped : Stepped} {storage' output' bytes' : List ℕ} (read : before ≡ state_of bytes)
      (is : ◌≡◌ {A = Outcome} (record { stepped = stepped; storage = storage'; output = output' }) (step l (record { state = before; storage = storage })))
      (kept : bytes' ≡ cond (moved (eqb before.core.place.kind 3) stepped.answer 1) (bytes_of_state stepped.state) bytes) where
    called : ◌≡◌ {A = Outcome} (record { stepped = stepped; storage = storage'; output = output' }) (step l (engine_at bytes storage))
    called = is ∙ ap (λ (s : State). step l (record { state = s; storage = storage })) read

    pub step_leaves_lem : {report' : List ℕ} {answer : ℕ} → length bytes ≡ state_length → length report ≡ 12 → report' ≡ numbers_of_report stepped.report
        → answer ≡ code stepped.answer
        → ◌≡◌ {A = StepLeft} (record { answer = answer; storage = storage'; output = output'; state = bytes'; report = report' })
        (step_left l storage bytes report)
    unfolding step_left after_step bytes_after is_finished
    step_leaves_lem h k r a =
        rw (eq-eqb (length bytes) state_length h, eq-eqb (length report) 12 k, ← called, a, r, kept, read)

    still_so : moved (eqb before.core.place.kind 3) stepped.answer 1 ≡ false
        → moved (is_finished (state_of bytes).core.place) (step l (engine_at bytes storage)).stepped.answer 1 ≡ false
    unfolding is_finished
    still_so k = rw (← called, ← read) k

    pub step_told_lem : (moved (eqb before.core.place.kind 3) stepped.answer 1 ≡ true → state_of (bytes_of_state stepped.state) ≡ stepped.state)
        → state_of bytes' ≡ (step l (engine_at bytes storage)).stepped.state
    unfolding is_finished
    step_told_lem back =
        told (moved (eqb before.core.place.kind 3) stepped.answer 1) bytes stepped.state kept back
        (λ still. ap (λ (o : Outcome). o.stepped.state) called ∙ (step_kept l (engine_at bytes storage) (still_so still)).state)
        ∙ ap (λ (o : Outcome). o.stepped.state) called

module _ (limit : ℕ) (l : Lent) (storage bytes : List ℕ) where
  pub run_short : (count : ℕ) → (length bytes ≡ state_length → ⊥) → no_run wrong_state l storage bytes count ≡ run_left limit l storage bytes count
  unfolding run_left
  run_short count h = rw (ne_eqb (length bytes) state_length h)

  -- what the engine's run leaves
  module _ {before : State} {ran : Ran} {storage' output' bytes' : List ℕ} (read : before ≡ state_of bytes)
      (is : ◌≡◌ {A = RunOutcome} (record { ran = ran; storage = storage'; output = output' }) (run limit l (record { state = before; storage = storage })))
      (kept : bytes' ≡ cond (moved (eqb before.core.place.kind 3) ran.answer ran.count) (bytes_of_state ran.state) bytes) where
    run_called : ◌≡◌ {A = RunOutcome} (record { ran = ran; storage = storage'; output = output' }) (run limit l (engine_at bytes storage))
    run_called = is ∙ ap (λ (s : State). run limit l (record { state = s; storage = storage })) read

    pub run_leaves_lem : (count : ℕ) {answer : ℕ} → length bytes ≡ state_length → answer ≡ code ran.answer
        → ◌≡◌ {A = RunLeft} (record { answer = answer; storage = storage'; output = output'; state = bytes'; count = ran.count })
        (run_left limit l storage bytes count)
    unfolding run_left after_run bytes_after is_finished
    run_leaves_lem count h a = rw (eq-eqb (length bytes) state_length h, ← run_called, a, kept, read)

    run_still : moved (eqb before.core.place.kind 3) ran.answer ran.count ≡ false
        → moved (is_finished (state_of bytes).core.place) (run limit l (engine_at bytes storage)).ran.answer
        (run limit l (engine_at bytes storage)).ran.count ≡ false
    unfolding is_finished
    run_still k = rw (← run_called, ← read) k

    pub run_told_lem : (moved (eqb before.core.place.kind 3) ran.answer ran.count ≡ true → state_of (bytes_of_state ran.state) ≡ ran.state)
        → state_of bytes' ≡ (run limit l (engine_at bytes storage)).ran.state
    unfolding is_finished
    run_told_lem back =
        told (moved (eqb before.core.place.kind 3) ran.answer ran.count) bytes ran.state kept back
        (λ still. ap (λ (r : RunOutcome). r.ran.state) run_called ∙ (run_kept limit l (engine_at bytes storage) (run_still still)).state)
        ∙ ap (λ (r : RunOutcome). r.ran.state) run_called

-- a fresh state
module _ (b : ℕ) (bytes : List ℕ) where
  pub fresh_no_width : is_width b ≡ false → ◌≡◌ {A = FreshLeft} (record { answer = 31; state = bytes }) (fresh_left b bytes)
  unfolding fresh_left told_fresh number
  fresh_no_width w = rw w

  module _ (w : is_width b ≡ true) where
    pub fresh_short : (length bytes ≡ state_length → ⊥) → ◌≡◌ {A = FreshLeft} (record { answer = wrong_state; state = bytes }) (fresh_left b bytes)
    unfolding fresh_left
    fresh_short h = rw (w, ne_eqb (length bytes) state_length h)

    pub fresh_made : {made : Fresh} → made ≡ fresh_of b → made.state ≡ fresh b
    unfolding fresh_of
    fresh_made is = ap (λ (f : Fresh). f.state) is ∙ rw w

    pub fresh_leaves : {state : State} {after : List ℕ} → length bytes ≡ state_length → state ≡ fresh b → after ≡ bytes_of_state state
        → ◌≡◌ {A = FreshLeft} (record { answer = 0; state = after }) (fresh_left b bytes)
    unfolding fresh_left
    fresh_leaves h s is = rw (w, eq-eqb (length bytes) state_length h, is, s)
