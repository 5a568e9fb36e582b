-- Where no step was carried out, a call leaves everything as it was. Assumes nothing.
use Prim.Native.Nat.{ℕ, zero, suc, ◌≤◌, ◌<◌}
use native.Mathlib.Omega.{arith}
use mathlib.Core.Bool.{Bool, true, false, not, ◌||◌, cond}
use mathlib.Core.List.{List}
use mathlib.Core.Path.{◌≡◌, refl, sym, ap, subst, ◌∙◌}
use borrow.Author.Tests.{lt-ltb, eq-eqb, ne_eqb}
use lib.Dec.{eqb, ltb}
use Rattle.machine.specs.declared.Answer.{Answer}
use Rattle.machine.specs.declared.Answer.TheVariants.{Running, Finished, Refused}
use Rattle.machine.specs.declared.State.{State}
use Rattle.machine.specs.Answer.{is_running}
use Rattle.machine.specs.State.{is_finished}
use Rattle.machine.specs.Sound.{Lent, Engine}
use Rattle.machine.specs.Step.{Outcome, RunOutcome, step, run, run_from, unchanged, carried_out, engine_of, ending}
use Rattle.machine.proofs.Steps.{AsBefore, Stepping, refusing, staying, forward, stepping}
use Rattle.layout.specs.Layout.{bytes_of_state, state_of}
use Rattle.player.specs.Calls.{is_refused, moved}

-- which of the tests says it
module _ (kind : ℕ) (answer : Answer) (count : ℕ) where
  or_false : (t : Bool) → t ≡ (t || false)
  or_false true = refl
  or_false false = refl

  pub moved_many : (count ≡ 1 → ⊥) → ltb 1 count ≡ moved (eqb kind 3) answer count
  unfolding moved
  moved_many h = rw (ne_eqb count 1 h) (or_false (ltb 1 count))

  pub moved_finished : count ≡ 1 → kind ≡ 3 → false ≡ moved (eqb kind 3) answer count
  unfolding moved
  moved_finished h k = rw (h, eq-eqb kind 3 k)

  pub moved_one : count ≡ 1 → (kind ≡ 3 → ⊥) → not (is_refused answer) ≡ moved (eqb kind 3) answer count
  unfolding moved
  moved_one h k = rw (h, ne_eqb kind 3 k)

true_false : ◌≡◌ {A = Bool} true false → ⊥
true_false k = let z : ◌≡◌ {A = ℕ} 0 1 = cc in omega arith

-- a step that was not carried out
pub step_kept : (l : Lent) (e : Engine) → moved (is_finished e.state.core.place) (step l e).stepped.answer 1 ≡ false → AsBefore l e (step l e)
step_kept l e still = go (stepping l e) still
  where
    same : (answer : Answer) → AsBefore l e (unchanged answer l e)
    same answer = unfold unchanged in record { state = refl; storage = refl; output = refl; report = refl }

    carried : (finished f : Bool) → finished ≡ false → moved finished (cond f Finished Running) 1 ≡ true
    carried finished true none = unfold moved is_refused in rw none
    carried finished false none = unfold moved is_refused in rw none

    go : Stepping e.state.width l e (step l e) → moved (is_finished e.state.core.place) (step l e).stepped.answer 1 ≡ false
        → AsBefore l e (step l e)
    go (refusing r is) k = subst (AsBefore l e) (sym is) (same (Refused r))
    go (staying f is) k = subst (AsBefore l e) (sym is) (same Finished)
    go (forward x facts f p is) k =
        let yes : moved (is_finished e.state.core.place) (step l e).stepped.answer 1 ≡ true =
        ap (λ (o : Outcome). moved (is_finished e.state.core.place) o.stepped.answer 1) is ∙ unfold carried_out in
        carried _ (is_finished x.state.core.place) f in
        absurd (let z : ◌≡◌ {A = Bool} true false = cc in true_false z)

-- what is lent to the next step
abbrev next : Lent → Outcome → Lent
next l o = record { table = l.table; input = l.input; output = o.output }

-- a run goes on after its first step, or ends with it
abbrev goes_on : Bool → ℕ → ℕ → Lent → Outcome → RunOutcome
goes_on t count limit l o =
    elim t [
      | true ↦ run_from (suc count) limit (next l o) (engine_of o)
      | false ↦ ending o.stepped.answer (suc count) (engine_of o) o.output
    ]

first_counts : (count limit : ℕ) (l : Lent) (o : Outcome) (t : Bool) → suc count ≤ (run_from (suc count) limit (next l o) (engine_of o)).ran.count
    → suc count ≤ (goes_on t count limit l o).ran.count
unfolding ending
first_counts count limit l o true h = h
first_counts count limit l o false h = omega arith

-- a run with a limit counts its first step
counted : (count limit : ℕ) (l : Lent) (e : Engine) → suc count ≤ (run_from count (suc limit) l e).ran.count
unfolding run_from ending
counted count zero l e = first_counts count zero l (step l e) (is_running (step l e).stepped.answer) (omega arith)
counted count (suc limit) l e =
    let o : Outcome = step l e in
    first_counts count (suc limit) l o (is_running o.stepped.answer) (omega (arith, counted (suc count) limit (next l o) (engine_of o)))

-- what a run leaves as it was
pub record RunAsBefore (l : Lent) (e : Engine) (r : RunOutcome) : Type 0 where
  pub state : r.ran.state ≡ e.state
  pub storage : r.storage ≡ e.storage
  pub output : r.output ≡ l.output

running_is : (answer : Answer) → is_running answer ≡ true → answer ≡ Running
unfolding is_running
running_is Running k = refl
running_is Finished k = absurd (true_false (sym k))
running_is (Refused r) k = absurd (true_false (sym k))

-- more than one step
moved_two : (finished : Bool) (answer : Answer) (count : ℕ) → 1 < count → moved finished answer count ≡ true
unfolding moved
moved_two finished answer count h = rw (lt-ltb 1 count h)

-- a run of which no step was carried out
pub run_kept : (limit : ℕ) (l : Lent) (e : Engine)
    → moved (is_finished e.state.core.place) (run limit l e).ran.answer (run limit l e).ran.count ≡ false → RunAsBefore l e (run limit l e)
unfolding run run_from
run_kept zero l e still = unfold ending in record { state = refl; storage = refl; output = refl }
run_kept (suc limit) l e still = by_case limit (is_running o.stepped.answer) refl still
  where
    o : Outcome
    o = step l e

    finished : Bool
    finished = is_finished e.state.core.place

    first : (answer : Answer) → moved finished o.stepped.answer 1 ≡ false → RunAsBefore l e (ending answer 1 (engine_of o) o.output)
    first answer k =
        let same : AsBefore l e o = step_kept l e k in
        unfold ending engine_of in record { state = same.state; storage = same.storage; output = same.output }

    by_case : (limit : ℕ) (t : Bool) → is_running o.stepped.answer ≡ t
        → moved finished (goes_on t 0 limit l o).ran.answer (goes_on t 0 limit l o).ran.count ≡ false → RunAsBefore l e (goes_on t 0 limit l o)
    by_case limit false is k = first o.stepped.answer (unfold ending in k)
    by_case zero true is k = unfold run_from in first Running (rw (running_is o.stepped.answer is) (unfold ending in k))
    by_case (suc more) true is k =
        let yes = moved_two finished _ _ (counted 1 more (next l o) (engine_of o)) in
        absurd (true_false (sym yes ∙ k))

-- bytes are left where a test says no, and written where it says yes
module _ (t : Bool) (bytes : List ℕ) (state : State) where
  pub not_written : t ≡ false → (bytes ≡ cond t (bytes_of_state state) bytes) × (t ≡ true → state_of (bytes_of_state state) ≡ state)
  not_written k = (rw k, λ yes. absurd (true_false (sym yes ∙ k)))

  pub written : {after : List ℕ} → t ≡ true → after ≡ bytes_of_state state → state_of (bytes_of_state state) ≡ state
      → (after ≡ cond t (bytes_of_state state) bytes) × (t ≡ true → state_of (bytes_of_state state) ≡ state)
  written k is back = (rw k is, λ _. back)
