-- A walk that stops at its first step: 31, 11, finished, 1. Assumes nothing.
use Rattle.std.specs.Prelude.{◌≡◌, ℕ, suc, ◌-◌, Bool, true, false, eqb, List, [], ◌∷◌}
use native.Mathlib.Omega.{arith}
use types.Run.{OneOf, miss}
use denote.Enum.Declared.{tag_of}
use Rattle.machine.specs.contracts.Answer.{the_type}
use mathlib.Core.Path.{refl, sym, ap, ◌∙◌}
use borrow.Author.Tests.{eq-eqb, ne_eqb, eqb-true}
use Rattle.word.specs.Word.{is_width}
use Rattle.std.specs.Prelude.{Result, Ok}
use Rattle.table.specs.declared.TableError.{TableError}
use Rattle.table.specs.Row.{length_fits}
use Rattle.table.specs.Table.{checked}
use Rattle.machine.specs.declared.Place.{Place}
use Rattle.machine.specs.declared.Answer.{Answer}
use Rattle.machine.specs.declared.Answer.TheVariants.{Running, Finished, Refused}
use Rattle.machine.specs.declared.Refusal.TheVariants.{Unsound, TableLength, NoWidth}
use Rattle.machine.specs.Answer.{told_answer, refusal_number, is_running, need, ◌>>◌}
use Rattle.machine.specs.State.{is_finished}
use Rattle.machine.specs.Storage.{no_report}
use Rattle.machine.specs.Sound.{Lent, lends, Engine, sound}
use Rattle.machine.specs.Step.{Outcome, RunOutcome, unchanged, outcome, plan, step_at, step, ending as ends, run_from, run}
use Rattle.machine.proofs.Numbers.{number_same}
use Rattle.word.specs.Told.{Told}
use Rattle.engine.specs.declared.Start.{Start}
use Rattle.engine.specs.declared.Walked.{Walked}
use Rattle.engine.specs.Starting.{start_told, Ready}
use Rattle.engine.specs.Walking.{walks, ending, walk_from}
use Rattle.engine.proofs.Turns.{walk_stops}
use Rattle.engine.proofs.Now.{returning}
use Rattle.engine.proofs.Relations.{ran_of, stepped_of, walk_run, walk_step}

-- soundness bears on no table
pub any_table : (b : ℕ) (table input output : List ℕ) (e : Engine) {t : Bool} → t ≡ sound b (lends [] input output) e → t ≡ sound b (lends table input output) e
unfolding sound
any_table b table input output e is = is

pub finished_is : (p : Place) → p.kind ≡ 3 → is_finished p ≡ true
unfolding is_finished
finished_is p z = eq-eqb p.kind 3 z

pub unfinished_is : (p : Place) → (p.kind ≡ 3 → ⊥) → is_finished p ≡ false
unfolding is_finished
unfinished_is p z = ne_eqb p.kind 3 z

-- no two answers are told alike
same_answer : (a c : Answer) → told_answer a ≡ told_answer c → a ≡ c
unfolding told_answer
same_answer Running Running e = refl
same_answer Running Finished e = let never : ◌≡◌ {A = ℕ} 0 1 = cc in absurd (omega arith)
same_answer Running (Refused r) e = absurd (let no : ◌≡◌ {A = ℕ} 0 1 = cc in omega arith)
same_answer Finished Running e = let never : ◌≡◌ {A = ℕ} 0 1 = cc in absurd (omega arith)
same_answer Finished Finished e = refl
same_answer Finished (Refused r) e = absurd (let no : ◌≡◌ {A = ℕ} 0 1 = cc in omega arith)
same_answer (Refused r) Running e = absurd (let no : ◌≡◌ {A = ℕ} 0 1 = cc in omega arith)
same_answer (Refused r) Finished e = absurd (let no : ◌≡◌ {A = ℕ} 0 1 = cc in omega arith)
same_answer (Refused r) (Refused q) e = let same : refusal_number r ≡ refusal_number q = cc in ap Refused (number_same same)

never_running : {A : Type 0} (a : Answer) → is_running a ≡ false → a ≡ Running → A
unfolding is_running
never_running Running over e = absurd (let no : ◌≡◌ {A = ℕ} 0 1 = cc in omega arith)
never_running Finished over e = absurd (let no : ◌≡◌ {A = ℕ} 0 1 = cc in omega arith)
never_running (Refused r) over e = absurd (let no : ◌≡◌ {A = ℕ} 0 1 = cc in omega arith)

-- an answer that is finished or a refusal
pub halted : (a : Answer) → OneOf (1 ∷ 2 ∷ []) (tag_of the_type a) → is_running a ≡ false
unfolding is_running
halted Running h = absurd (miss (1 ∷ 2 ∷ []) 0 tt h)
halted Finished h = refl
halted (Refused r) h = refl

-- what is judged before a walk, by its order
module _ (l : Lent) (e : Engine) where
  abbrev b : ℕ
  b = e.state.width

  pub told_no_width : is_width b ≡ false → told_answer (Refused NoWidth) ≡ start_told l e
  unfolding start_told told_answer refusal_number
  told_no_width k = rw k

  module _ (wide : is_width b ≡ true) where
    pub told_unsound : sound b l e ≡ false → told_answer (Refused Unsound) ≡ start_told l e
    unfolding start_told told_answer refusal_number
    told_unsound k = rw (wide, k)

    module _ (fine : sound b l e ≡ true) where
      pub told_finished : is_finished e.state.core.place ≡ true → told_answer Finished ≡ start_told l e
      unfolding start_told told_answer
      told_finished k = rw (wide, fine, k)

      module _ (on : is_finished e.state.core.place ≡ false) where
        pub told_length : length_fits l.table ≡ false → told_answer (Refused TableLength) ≡ start_told l e
        unfolding start_told told_answer refusal_number
        told_length k = rw (wide, fine, on, k)

        pub told_running : length_fits l.table ≡ true → told_answer Running ≡ start_told l e
        unfolding start_told told_answer
        told_running k = rw (wide, fine, on, k)

  -- a first step that leaves all as it was
  stays : (answer : Answer) → is_running answer ≡ false → step l e ≡ unchanged answer l e → (more : ℕ)
      → walk_from 0 more l e ≡ walks e.state answer no_report 1 e.storage l.output
  unfolding unchanged ending
  stays answer over is more = walk_stops 0 l e is over more

  -- the tests taken apart
  by_tests : (A : Type 0) → (is_width b ≡ false → A) → (is_width b ≡ true → sound b l e ≡ false → A)
      → (is_width b ≡ true → sound b l e ≡ true → is_finished e.state.core.place ≡ true → A)
      → (is_width b ≡ true → sound b l e ≡ true → is_finished e.state.core.place ≡ false → length_fits l.table ≡ false → A)
      → (is_width b ≡ true → sound b l e ≡ true → is_finished e.state.core.place ≡ false → length_fits l.table ≡ true → A) → A
  by_tests A no_width unsound finished short goes =
      by_bool (is_width b) (λ w. by_bool (sound b l e) (λ s. by_bool (is_finished e.state.core.place) (finished w s)
      (λ f. by_bool (length_fits l.table) (goes w s f) (short w s f))) (unsound w)) no_width
    where
      by_bool : (t : Bool) → (t ≡ true → A) → (t ≡ false → A) → A
      by_bool true f g = f refl
      by_bool false f g = g refl

  module _ {first : Answer} (is : told_answer first ≡ start_told l e) where
    -- where it goes on, the engine may be planned for
    pub first_goes : first ≡ Running → {judged : Bool} → (judged ≡ true → checked b l.table ≡ Ok 0) → Ready judged l e
    unfolding is_running
    first_goes to {judged} formed =
        by_tests (Ready judged l e) (λ w. other (Refused NoWidth) refl (told_no_width w)) (λ w s. other (Refused Unsound) refl (told_unsound w s))
        (λ w s f. other Finished refl (told_finished w s f)) (λ w s f n. other (Refused TableLength) refl (told_length w s f n))
        (λ w s f n. record { wide = w; fits = n; formed = formed; going = f; fine = s })
      where
        other : (answer : Answer) → is_running answer ≡ false → told_answer answer ≡ start_told l e → Ready judged l e
        other answer stop so = never_running answer stop (same_answer answer first (so ∙ sym is) ∙ to)

    -- where it does not, it answers so and leaves all as it was
    pub first_stops : is_running first ≡ false → (more : ℕ) → {r : Walked}
        → r ≡ record { state = e.state; answer = first; report = no_report; count = 1 } → returning r e.storage l.output ≡ walk_from 0 more l e
    unfolding step step_at outcome plan need ◌>>◌ is_running
    first_stops over more {r} same =
        by_tests (returning r e.storage l.output ≡ walk_from 0 more l e)
        (λ w. halting (Refused NoWidth) refl (told_no_width w) (rw w))
        (λ w s. halting (Refused Unsound) refl (told_unsound w s) (rw (w, s)))
        (λ w s f. halting Finished refl (told_finished w s f) (rw (w, s, f)))
        (λ w s f n. halting (Refused TableLength) refl (told_length w s f n) (rw (w, s, f, n)))
        (λ w s f n. never_running first over (same_answer first Running (is ∙ sym (told_running w s f n))))
      where
        halting : (answer : Answer) → is_running answer ≡ false → told_answer answer ≡ start_told l e → step l e ≡ unchanged answer l e
            → returning r e.storage l.output ≡ walk_from 0 more l e
        halting answer stop so at = rw (same, same_answer first answer (is ∙ sym so)) (sym (stays answer stop at more))

-- a walk that stops is told by its answer, and its table is not judged
pub unjudged : {r : Start} {answer : Answer} → r ≡ record { answer = answer; judged = false } → {t : Told ℕ} → told_answer answer ≡ t → {A : Type 0}
    → (told_answer r.answer ≡ t) × (r.judged ≡ true → A)
unjudged same is = (rw same is, λ j. absurd (let no : ◌≡◌ {A = ℕ} 0 1 = cc in omega arith))

-- a table that is checked, and has no ill-formed row
pub judged_fine : {row : ℕ} {found : Result ℕ TableError} → Ok row ≡ found → eqb row 0 ≡ true → found ≡ Ok 0
judged_fine {row} at none = sym at ∙ ap Ok (let same : row ≡ 0 = eqb-true row 0 none in same)

-- the public calls, by the walk
pub steps_once : (l : Lent) (e : Engine) (storage output : List ℕ) {r : Walked} → returning r storage output ≡ walk_from 0 (1 - 1) l e
    → ◌≡◌ {A = Outcome} (record { stepped = record { state = r.state; answer = r.answer; report = r.report }; storage = storage; output = output })
    (step l e)
steps_once l e storage output is = ap stepped_of is ∙ walk_step l e

module _ (limit : ℕ) (l : Lent) (e : Engine) where
  pub runs_none : limit ≡ 0 → ◌≡◌ {A = RunOutcome}
      (record { ran = record { state = e.state; answer = Running; count = 0 }; storage = e.storage; output = l.output }) (run limit l e)
  unfolding run run_from ends
  runs_none z = rw z

  pub runs_some : (limit ≡ 0 → ⊥) → {storage output : List ℕ} {r : Walked} → returning r storage output ≡ walk_from 0 (limit - 1) l e
      → ◌≡◌ {A = RunOutcome} (record { ran = record { state = r.state; answer = r.answer; count = r.count }; storage = storage; output = output })
      (run limit l e)
  unfolding run
  runs_some some is =
      let more : suc (limit - 1) ≡ limit = omega arith in
      ap ran_of is ∙ sym (walk_run 0 (limit - 1) l e) ∙ ap (λ (n : ℕ). run_from 0 n l e) more
