-- The turns of a walk: each is a step of the definitions, and soundness, judged once, stays. Assumes nothing.
use Rattle.std.specs.Prelude.{◌≡◌, ℕ, zero, suc, ◌+◌, ◌-◌, ◌<◌, ◌≤◌, Bool, true, false, cond, ◌||◌, eqb, List}
use native.Mathlib.Nat.{sub-zero}
use native.Mathlib.Numerals.{add-one}
use native.Mathlib.Omega.{arith}
use mathlib.Core.Path.{refl, sym, ap, subst, ◌∙◌}
use borrow.Author.Tests.{eqb-true}
use Rattle.word.specs.Word.{is_width}
use Rattle.table.specs.Row.{length_fits}
use Rattle.machine.specs.declared.Report.{Report}
use Rattle.machine.specs.declared.Refusal.{Refusal}
use Rattle.machine.specs.declared.Answer.TheVariants.{Running, Finished, Refused}
use Rattle.machine.specs.Answer.{Checked, refused, passed, is_running}
use Rattle.machine.specs.State.{is_finished, moved_to, on_core}
use Rattle.machine.specs.Storage.{no_report, placed}
use Rattle.machine.specs.Sound.{Lent, lends, Engine, sound}
use Rattle.machine.specs.Effects.{Effects, engine_after}
use Rattle.machine.specs.Step.{Outcome, unchanged, carried_out, outcome, step_at, step, engine_of}
use Rattle.machine.proofs.Facts.{Facts}
use Rattle.machine.proofs.Steps.{sound_engine_lem, step_is}
use Rattle.machine.proofs.Soundness.{next, step_keeps_sound}
use Rattle.operations.specs.Effects.{effects}
use Rattle.operations.specs.Seen.{sight}
use Rattle.plans.specs.Answers.{Plan}
use Rattle.plans.specs.Steps.{step_plan}
use Rattle.plans.proofs.Meets.{plan_passed, plan_refused}
use Rattle.commit.specs.Carried.{output_after}
use Rattle.commit.specs.Reported.{report_of}
use Rattle.commit.specs.Then.{engine_then}
use Rattle.commit.proofs.Engines.{Sure, effects_as, output_as, report_as}
use Rattle.engine.specs.Walking.{Walk, walks, ending, lent_after, walk_from}

-- what a step leaves that goes so far, by the engine after it
abbrev leaves : Engine → Report → List ℕ → Outcome
leaves e report output =
    record {
      stepped = record { state = e.state; answer = cond (is_finished e.state.core.place) Finished Running; report = report };
      storage = e.storage;
      output = output;
    }

carried_parts : (b : ℕ) (x : Effects) (l : Lent) (e : Engine)
    → carried_out b x l e ≡ leaves (engine_after b x e) x.report (placed e.state.core.written x.printed l.output)
unfolding carried_out engine_after
carried_parts b x l e = refl

-- one step of words of b bits, of a sound engine that is not finished, with a table of the right length
module _ (b : ℕ) (l : Lent) (e : Engine) (fine : sound b l e ≡ true) (unfinished : is_finished e.state.core.place ≡ false)
    (fits : length_fits l.table ≡ true) where
  facts : Facts b e
  facts = sound_engine_lem b l e fine

  step_refused : {r : Refusal} → step_plan b (sight l e) l.table e.state.core.place ≡ refused r → step_at b l e ≡ unchanged (Refused r) l e
  unfolding step_at outcome
  step_refused k = rw (fine, unfinished, plan_refused b l e facts fits k)

  step_carried : {p : Plan} → step_plan b (sight l e) l.table e.state.core.place ≡ passed p
      → step_at b l e ≡ carried_out b (effects b p.action (on_core (moved_to p.to) e.state)) l e
  unfolding step_at outcome
  step_carried k = rw (fine, unfinished, plan_passed b l e facts fits k)

  step_does : (p : Plan) → step_plan b (sight l e) l.table e.state.core.place ≡ passed p → Sure p.action
      → step_at b l e ≡ leaves (engine_then b p.to p.action e) (report_of p.action) (output_after e.state.core.written p.action l.output)
  step_does p k sure =
      let x = effects b p.action (on_core (moved_to p.to) e.state) in
      let out = placed e.state.core.written x.printed l.output in
      step_carried k
      ∙ carried_parts b x l e
      ∙ ap (λ (f : Engine). leaves f x.report out) (effects_as b e p.to p.action sure)
      ∙ ap (λ (r : Report). leaves (engine_then b p.to p.action e) r out) (report_as b _ p.action)
      ∙ ap (leaves (engine_then b p.to p.action e) (report_of p.action)) (output_as b _ p.action e.state.core.written l.output)

-- the turns of a walk
pick : Bool → Walk → Walk → Walk
pick t x y = elim t [ true ↦ x | false ↦ y ]

picked : (t : Bool) (x y : Walk) {s : Bool} → t ≡ s → pick t x y ≡ pick s x y
picked t x y e = rw e

module _ (count : ℕ) (l : Lent) (e : Engine) {o : Outcome} (is : step l e ≡ o) where
  turn : (more : ℕ) → walk_from count (suc more) l e
      ≡ pick (is_running (step l e).stepped.answer) (walk_from (suc count) more (lent_after l (step l e)) (engine_of (step l e)))
      (ending (suc count) (step l e))
  unfolding walk_from pick
  turn more = refl

  walk_last : walk_from count 0 l e ≡ ending (suc count) o
  unfolding walk_from
  walk_last = ap (ending (suc count)) is

  pub walk_stops : is_running o.stepped.answer ≡ false → (more : ℕ) → walk_from count more l e ≡ ending (suc count) o
  unfolding pick
  walk_stops h zero = walk_last
  walk_stops h (suc more) = turn more ∙ picked _ _ _ (ap (λ (o : Outcome). is_running o.stepped.answer) is ∙ h) ∙ ap (ending (suc count)) is

  walk_goes : is_running o.stepped.answer ≡ true → (more : ℕ) → walk_from count (suc more) l e ≡ walk_from (suc count) more (lent_after l o) (engine_of o)
  unfolding pick
  walk_goes h more =
      turn more
      ∙ picked _ _ _ (ap (λ (o : Outcome). is_running o.stepped.answer) is ∙ h)
      ∙ ap (λ (o : Outcome). walk_from (suc count) more (lent_after l o) (engine_of o)) is

-- a walk so far: what is left of it leads where the whole walk does
pub record Going (b : ℕ) (table input : List ℕ) (start : Walk) (limit count : ℕ) (output : List ℕ) (e : Engine) : Type 0 where
  pub same : start ≡ walk_from count (limit - 1 - count) (lends table input output) e
  pub width : e.state.width ≡ b
  pub fine : sound b (lends table input output) e ≡ true
  pub unfinished : is_finished e.state.core.place ≡ false
  pub few : count < limit

pub going_first : (b : ℕ) (table input : List ℕ) (limit : ℕ) (output : List ℕ) (e : Engine) → e.state.width ≡ b → 1 ≤ limit
    → sound b (lends table input output) e ≡ true
    → is_finished e.state.core.place ≡ false → Going b table input (walk_from 0 (limit - 1) (lends table input output) e) limit 0 output e
going_first b table input limit output e width some fine unfinished =
    record { same = rw (sub-zero (limit - 1)); width = width; fine = fine; unfinished = unfinished; few = some }

-- one turn
module _ (b : ℕ) (table input : List ℕ) (start : Walk) (limit count : ℕ) (output : List ℕ) (e : Engine)
    (g : Going b table input start limit count output e) (wide : is_width b ≡ true) (fits : length_fits table ≡ true) where
  abbrev l : Lent
  l = lends table input output

  is : step l e ≡ step_at b l e
  is = step_is b l e g.width wide

  abbrev planning : Checked Plan
  planning = step_plan b (sight l e) table e.state.core.place

  pub going_refused : {r : Refusal} → planning ≡ refused r → walks e.state (Refused r) no_report (count + 1) e.storage output ≡ start
  unfolding unchanged ending is_running
  going_refused k =
      rw add-one
      (sym (g.same ∙ walk_stops count l e (is ∙ step_refused b l e g.fine g.unfinished fits k) refl (limit - 1 - count)))

  module _ (p : Plan) (k : planning ≡ passed p) (sure : Sure p.action) where
    abbrev after : Engine
    after = engine_then b p.to p.action e

    abbrev out : List ℕ
    out = output_after e.state.core.written p.action output

    does : step_at b l e ≡ leaves after (report_of p.action) out
    does = step_does b l e g.fine g.unfinished fits p k sure

    going_finished : is_finished after.state.core.place ≡ true
        → walks after.state Finished (report_of p.action) (count + 1) after.storage out ≡ start
    unfolding ending is_running
    going_finished end =
        rw add-one
        (sym
        (g.same
        ∙ walk_stops count l e {o = record {
          stepped = record { state = after.state; answer = Finished; report = report_of p.action };
          storage = after.storage;
          output = out;
        }}
        (is ∙ does ∙ rw end) refl (limit - 1 - count)))

    goes : is_finished after.state.core.place ≡ false
        → step_at b l e ≡ record {
          stepped = record { state = after.state; answer = Running; report = report_of p.action };
          storage = after.storage;
          output = out;
        }
    goes on = does ∙ rw on

    going_last : is_finished after.state.core.place ≡ false → count + 1 ≡ limit
        → walks after.state Running (report_of p.action) (count + 1) after.storage out ≡ start
    unfolding ending
    going_last on all =
        let none : limit - 1 - count ≡ 0 = omega arith in
        rw add-one (sym (g.same ∙ ap (λ (n : ℕ). walk_from count n l e) none ∙ walk_last count l e (is ∙ goes on)))

    -- it ends there finished, or at its limit
    pub going_ends : (end : Bool) → is_finished after.state.core.place ≡ end → (end || eqb (count + 1) limit) ≡ true
        → walks after.state (cond end Finished Running) (report_of p.action) (count + 1) after.storage out ≡ start
    going_ends true end over = going_finished end
    going_ends false on over = going_last on (eqb-true _ _ over)

    pub going_next : is_finished after.state.core.place ≡ false → (count + 1 ≡ limit → ⊥) → Going b table input start limit (count + 1) out after
    unfolding is_running engine_of next
    going_next on more =
        let few = g.few in
        let left : limit - 1 - count ≡ suc (limit - 1 - (count + 1)) = omega arith in
        record {
          same =
              g.same
              ∙ ap (λ (n : ℕ). walk_from count n l e) left
              ∙ walk_goes count l e (is ∙ goes on) refl (limit - 1 - (count + 1))
              ∙ ap (λ (n : ℕ). walk_from n (limit - 1 - (count + 1)) (lends table input out) after) (sym (add-one count));
          width = g.width;
          fine =
              subst (λ (o : Outcome). sound b (lends table input o.output) (record { state = o.stepped.state; storage = o.storage }) ≡ true) (goes on)
              (step_keeps_sound b l e g.fine);
          unfinished = on;
          few = omega arith;
        }
