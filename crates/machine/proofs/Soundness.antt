-- A step and a run keep a sound state sound, with the same table and input lent and the output that they left.
-- Assumes nothing.
use Prim.Native.Nat.{ℕ, zero, suc, ◌≤◌}
use mathlib.Core.Bool.{true, false, ◌&&◌}
use mathlib.Core.Path.{◌≡◌, subst, sym}
use borrow.Author.Tests.{leb-true, le-leb}
use lib.Dec.{leb}
use lib.ListN.{length}
use Rattle.word.proofs.Tests.{and_true as and_parts}
use Rattle.machine.specs.Answer.{is_running}
use Rattle.machine.specs.Storage.{placed}
use Rattle.machine.specs.Sound.{Lent, Engine, sound, sound_engine}
use Rattle.machine.specs.Effects.{engine_after}
use Rattle.machine.specs.Step.{Outcome, RunOutcome, unchanged, carried_out, step_at, step, engine_of, ending, run_from, engine_ran}
use Rattle.machine.proofs.Checks.{and_true}
use Rattle.machine.proofs.Placed.{length_placed}
use Rattle.machine.proofs.Facts.{facts_sound}
use Rattle.machine.proofs.Plan.{planned}
use Rattle.machine.proofs.Steps.{Stepping, refusing, staying, forward, by_width, stepping_at, step_width}
use Rattle.machine.proofs.Keeps.{planned_facts}
use Rattle.machine.proofs.Counts.{plan_counts}

-- what is lent to the next step of a run
unfoldable pub next : Lent → Outcome → Lent
next l o = record { table = l.table; input = l.input; output = o.output }

-- the counts of a sound state
pub counts_fit : (b : ℕ) (l : Lent) (e : Engine) → sound b l e ≡ true
    → (e.state.core.taken ≤ length l.input) × (e.state.core.written ≤ length l.output)
unfolding sound
counts_fit b l e s =
    let input = leb e.state.core.taken (length l.input) in
    let output = leb e.state.core.written (length l.output) in
    let (k, written) = and_parts (sound_engine b e && input) output s in
    (leb-true _ _ (and_parts (sound_engine b e) input k).1, leb-true _ _ written)

pub step_keeps_sound : (b : ℕ) (l : Lent) (e : Engine) → sound b l e ≡ true
    → sound b (next l (step_at b l e)) (engine_of (step_at b l e)) ≡ true
unfolding sound next engine_of unchanged carried_out engine_after
step_keeps_sound b l e s = go (stepping_at b l e)
  where
    go : Stepping b l e (step_at b l e) → sound b (next l (step_at b l e)) (engine_of (step_at b l e)) ≡ true
    go (refusing r o) = subst (λ (o : Outcome). sound b (next l o) (engine_of o) ≡ true) (sym o) s
    go (staying f o) = subst (λ (o : Outcome). sound b (next l o) (engine_of o) ≡ true) (sym o) s
    go (forward x h f p o) =
        let (t, w) = counts_fit b l e s in
        let counted = plan_counts b l e t w x p in
        let long : length (placed e.state.core.written x.printed l.output) ≡ length l.output = length_placed _ _ _ counted.room in
        subst (λ (o : Outcome). sound b (next l o) (engine_of o) ≡ true) (sym o)
        (and_true
        (and_true (facts_sound b (engine_after b x e) (planned_facts b e h x l (planned b l e h f x p))) (le-leb _ _ counted.taken))
        (le-leb x.state.core.written _ (subst (λ (n : ℕ). x.state.core.written ≤ n) (sym long) counted.written)))

-- what is lent after a run
unfoldable pub lent_ran : Lent → RunOutcome → Lent
lent_ran l r = record { table = l.table; input = l.input; output = r.output }

-- sound at its own width
abbrev fine : Lent → Engine → Type 0
fine l e = sound e.state.width l e ≡ true

step_keeps_fine : (l : Lent) (e : Engine) → fine l e → fine (next l (step l e)) (engine_of (step l e))
unfolding unchanged next engine_of
step_keeps_fine l e s =
    by_width l e (λ o. fine (next l o) (engine_of o))
    (λ _. subst (λ (b : ℕ). sound b (next l (step_at e.state.width l e)) (engine_of (step_at e.state.width l e)) ≡ true)
    (sym (step_width e.state.width l e)) (step_keeps_sound e.state.width l e s))
    (λ _. s)

pub run_keeps_sound : (count limit : ℕ) (l : Lent) (e : Engine) → fine l e → fine (lent_ran l (run_from count limit l e)) (engine_ran (run_from count limit l e))
unfolding run_from ending engine_ran lent_ran next engine_of
run_keeps_sound count zero l e s = s
run_keeps_sound count (suc limit) l e s =
    let o : Outcome = step l e in
    let stays = step_keeps_fine l e s in
    let rest : Lent = next l o in
    elim (is_running o.stepped.answer) as (λ t.
    let r : RunOutcome = (elim t [
      | true ↦ run_from (suc count) limit rest (engine_of o)
      | false ↦ ending o.stepped.answer (suc count) (engine_of o) o.output
    ]) in
    fine (lent_ran l r) (engine_ran r)) [
      | true ↦ run_keeps_sound (suc count) limit rest (engine_of o) stays
      | false ↦ stays
    ]
