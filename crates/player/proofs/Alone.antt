-- Ticket 8's theorem on the calls: where l6_defined answers 0 for a table, no call of the engine's step or run, and none of l6_step or l6_run,
-- answers 14, while a fresh tour is played with that table alone. The equations that it takes are what the calls promise. Assumes nothing.
use Prim.Native.Nat.{ℕ}
use native.Mathlib.Omega.{arith}
use mathlib.Core.List.{List}
use mathlib.Core.Path.{◌≡◌, refl, ap, ◌∙◌}
use borrow.Author.Tests.{eq-eqb}
use lib.ListN.{length}
use Rattle.word.specs.Told.{number}
use Rattle.machine.specs.declared.Answer.{Answer}
use Rattle.machine.specs.declared.Answer.TheVariants.{Running, Finished, Refused}
use Rattle.machine.specs.declared.Refusal.{Refusal}
use Rattle.machine.specs.declared.Refusal.TheVariants.{UndefinedField}
use Rattle.machine.specs.Answer.{refusal_number, told_answer}
use Rattle.machine.proofs.Numbers.{number_same}
use Rattle.machine.specs.Sound.{Lent, Engine}
use Rattle.machine.specs.Step.{Outcome, RunOutcome, step, run, engine_of, engine_ran}
use Rattle.std.specs.Prelude.{Ok, Err}
use Rattle.defined.specs.declared.FieldsError.TheVariants as errors
use Rattle.defined.specs.declared.FieldsError.TheVariants.{NotDefined, BadLength, IllFormed, WrongKind}
use Rattle.defined.specs.Answer.{FieldsCheck, fields_checked, told_fields}
use Rattle.defined.specs.Alone.{Alone, begin, stepping, running}
use Rattle.defined.proofs.Theorem.{yes_step, yes_run}
use Rattle.layout.specs.Layout.{state_length}
use Rattle.player.specs.Calls.{code, engine_at, StepLeft, RunLeft, after_step, step_left, after_run, run_left}
use Rattle.player.specs.Defined.{after_defined, defined_left}
use Rattle.player.specs.Playing.{Playing, freshly, step_called, run_called}

-- 0 is the answer of a yes alone
yes_answer : (a : FieldsCheck) (row field : ℕ) → (after_defined a row field).answer ≡ 0 → a ≡ Ok tt
unfolding after_defined told_fields number
yes_answer (Ok u) row field e = refl
yes_answer (Err (NotDefined r n)) row field e = absurd (omega arith)
yes_answer (Err errors.NoWidth) row field e = absurd (omega arith)
yes_answer (Err BadLength) row field e = absurd (omega arith)
yes_answer (Err (IllFormed r)) row field e = absurd (omega arith)
yes_answer (Err (WrongKind r)) row field e = absurd (omega arith)

pub defined_yes : (b : ℕ) (table : List ℕ) (row field : ℕ) → (defined_left b table row field).answer ≡ 0 → fields_checked b table ≡ Ok tt
unfolding defined_left
defined_yes b table row field e = yes_answer (fields_checked b table) row field e

-- 14 is the number of one refusal alone
undefined_only : (r : Refusal) → refusal_number r ≡ 14 → r ≡ UndefinedField
unfolding refusal_number
undefined_only r e = number_same e

answer_only : (a : Answer) → number (told_answer a) ≡ 14 → a ≡ Refused UndefinedField
unfolding told_answer number
answer_only Running e = absurd (omega arith)
answer_only Finished e = absurd (omega arith)
answer_only (Refused r) e = ap Refused (undefined_only r e)

code_only : (a : Answer) → code a ≡ 14 → a ≡ Refused UndefinedField
unfolding code
code_only Running e = absurd (omega arith)
code_only Finished e = absurd (omega arith)
code_only (Refused r) e = ap Refused (undefined_only r e)

module _ (b : ℕ) (table : List ℕ) (h : fields_checked b table ≡ Ok tt) (e : Engine) (c : Alone table e) (l : Lent) (is : l.table ≡ table) where
  -- the engine's own calls, by the equations and the numbers that they promise
  pub step_never : (o : Outcome) → o ≡ step l e → number (told_answer o.stepped.answer) ≡ 14 → ⊥
  step_never o eq k = yes_step b table h e c l is o eq (answer_only _ k)

  pub run_never : (limit : ℕ) (r : RunOutcome) → r ≡ run limit l e → number (told_answer r.ran.answer) ≡ 14 → ⊥
  run_never limit r eq k = yes_run b table h e c l is limit r eq (answer_only _ k)

-- a tour that is played so is at an engine that its table alone has led to
playing_alone : (table storage bytes : List ℕ) → Playing table storage bytes → Alone table (engine_at bytes storage)
unfolding step_left after_step run_left after_run engine_of engine_ran
playing_alone table storage bytes (freshly b is) = rw is (begin b storage)
playing_alone table storage bytes (step_called {storage = before} {bytes = from} c l is report left eq long twelve back) =
    let e = engine_at from before in
    let stored : left.storage ≡ (step l e).storage = ap (λ (x : StepLeft). x.storage) eq ∙ rw
    (eq-eqb (length from) state_length long, eq-eqb (length report) 12 twelve) refl in
    rw (back, stored) (stepping (playing_alone table before from c) l is (step l e) refl)
playing_alone table storage bytes (run_called {storage = before} {bytes = from} c l is limit count left eq long back) =
    let e = engine_at from before in
    let stored : left.storage ≡ (run limit l e).storage = ap (λ (x : RunLeft). x.storage) eq ∙ rw (eq-eqb (length from) state_length long) refl in
    rw (back, stored) (running (playing_alone table before from c) l is limit (run limit l e) refl)

module _ (b : ℕ) (table : List ℕ) (row field : ℕ) (h : (defined_left b table row field).answer ≡ 0) (storage bytes : List ℕ) (c : Playing table storage bytes)
    (l : Lent) (is : l.table ≡ table) (long : length bytes ≡ state_length) where
  -- no l6_step answers 14
  pub l6_step_never : (report : List ℕ) → length report ≡ 12 → (step_left l storage bytes report).answer ≡ 14 → ⊥
  unfolding step_left after_step
  l6_step_never report twelve k =
      let k₁ : code (step l (engine_at bytes storage)).stepped.answer ≡ 14 = rw
      (eq-eqb (length bytes) state_length long, eq-eqb (length report) 12 twelve) at k in
      yes_step b table (defined_yes b table row field h) _ (playing_alone table storage bytes c) l is _ refl (code_only _ k₁)

  -- no l6_run does
  pub l6_run_never : (limit count : ℕ) → (run_left limit l storage bytes count).answer ≡ 14 → ⊥
  unfolding run_left after_run
  l6_run_never limit count k =
      let k₁ : code (run limit l (engine_at bytes storage)).ran.answer ≡ 14 = rw (eq-eqb (length bytes) state_length long) at k in
      yes_run b table (defined_yes b table row field h) _ (playing_alone table storage bytes c) l is limit _ refl (code_only _ k₁)
