-- What a host may rely on, from the equations of the calls: a refused step, one of a finished engine, and a run that stops so at its first
-- step leave every byte of the state, every storage word and every output byte as they were. Assumes nothing.
use Prim.Native.Nat.{ℕ}
use mathlib.Core.Bool.{Bool, true, false, not}
use mathlib.Core.List.{List}
use mathlib.Core.Path.{◌≡◌, refl}
use borrow.Author.Tests.{eq-eqb}
use lib.ListN.{length, replicate}
use Rattle.word.specs.Word.{is_width}
use Rattle.word.proofs.Tests.{and_false}
use Rattle.machine.specs.declared.Answer.{Answer}
use Rattle.machine.specs.declared.Answer.TheVariants.{Finished, Refused}
use Rattle.machine.specs.declared.Refusal.{Refusal}
use Rattle.machine.specs.Answer.{refusal_number}
use Rattle.machine.specs.State.{is_finished}
use Rattle.machine.specs.Storage.{no_store_of, no_report}
use Rattle.machine.specs.Sound.{Lent, sound}
use Rattle.machine.specs.Step.{step, run}
use Rattle.machine.proofs.Steps.{finished_stays}
use Rattle.layout.specs.Layout.{state_length, state_of}
use Rattle.player.specs.Calls.{code, is_refused, moved, bytes_after, engine_at, numbers_of_store, numbers_of_report, after_step}
use Rattle.player.specs.Calls.{step_left, after_run, run_left}
use Rattle.player.proofs.Moving.{step_kept, run_kept}

moved_refused : (finished : Bool) (r : Refusal) → moved finished (Refused r) 1 ≡ false
unfolding moved is_refused
moved_refused finished r = and_false (not finished)

moved_never : (answer : Answer) → moved true answer 1 ≡ false
unfolding moved
moved_never answer = refl

module _ (l : Lent) (storage bytes : List ℕ) (long : length bytes ≡ state_length) where
  abbrev finished : Bool
  finished = is_finished (state_of bytes).core.place

  -- a step that is not carried out changes nothing and reports zeros
  step_still : (report : List ℕ) (answer : Answer) → length report ≡ 12 → (step l (engine_at bytes storage)).stepped.answer ≡ answer
      → moved finished answer 1 ≡ false
      → step_left l storage bytes report ≡ record { answer = code answer; storage = storage; output = l.output; state = bytes; report = replicate 12 0 }
  unfolding step_left after_step bytes_after numbers_of_report numbers_of_store no_report no_store_of
  step_still report answer h is still =
      let same = step_kept l (engine_at bytes storage) (rw is still) in
      rw (eq-eqb (length bytes) state_length long, eq-eqb (length report) 12 h, is, still, same.storage, same.output, same.report)

  pub refused_step : (report : List ℕ) (r : Refusal) → length report ≡ 12 → (step l (engine_at bytes storage)).stepped.answer ≡ Refused r
      → step_left l storage bytes report ≡ record { answer = refusal_number r; storage = storage; output = l.output; state = bytes; report = replicate 12 0 }
  unfolding code
  refused_step report r h is = step_still report (Refused r) h is (moved_refused finished r)

  pub finished_step : (report : List ℕ) → length report ≡ 12 → is_width (state_of bytes).width ≡ true
      → sound (state_of bytes).width l (engine_at bytes storage) ≡ true
      → finished ≡ true
      → step_left l storage bytes report ≡ record { answer = 100; storage = storage; output = l.output; state = bytes; report = replicate 12 0 }
  unfolding code
  finished_step report h wide fine end = step_still report Finished h (finished_stays l (engine_at bytes storage) wide fine end).0
      (rw end (moved_never Finished))

  -- so does a run that stops so at its first step
  run_still : (limit count : ℕ) (answer : Answer) → (run limit l (engine_at bytes storage)).ran.answer ≡ answer
      → (run limit l (engine_at bytes storage)).ran.count ≡ 1
      → moved finished answer 1 ≡ false
      → run_left limit l storage bytes count ≡ record { answer = code answer; storage = storage; output = l.output; state = bytes; count = 1 }
  unfolding run_left after_run bytes_after
  run_still limit count answer is one still =
      let same = run_kept limit l (engine_at bytes storage) (rw (is, one) still) in
      rw (eq-eqb (length bytes) state_length long, is, one, still, same.storage, same.output)

  pub refused_run : (limit count : ℕ) (r : Refusal) → (run limit l (engine_at bytes storage)).ran.answer ≡ Refused r
      → (run limit l (engine_at bytes storage)).ran.count ≡ 1
      → run_left limit l storage bytes count ≡ record { answer = refusal_number r; storage = storage; output = l.output; state = bytes; count = 1 }
  unfolding code
  refused_run limit count r is one = run_still limit count (Refused r) is one (moved_refused finished r)

  pub finished_run : (limit count : ℕ) → (run limit l (engine_at bytes storage)).ran.answer ≡ Finished
      → (run limit l (engine_at bytes storage)).ran.count ≡ 1 → finished ≡ true
      → run_left limit l storage bytes count ≡ record { answer = 100; storage = storage; output = l.output; state = bytes; count = 1 }
  unfolding code
  finished_run limit count is one end = run_still limit count Finished is one (rw end (moved_never Finished))
