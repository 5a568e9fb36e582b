-- What every step does: a refused one changes nothing, a finished engine stays as it is, and what is delivered is the lowest aligned
-- run outside the live blocks.
-- Assumes nothing.
use Prim.Native.Nat.{ℕ, ◌≤◌}
use native.Mathlib.Omega.{arith}
use mathlib.Core.Bool.{Bool, true, false, ◌&&◌, cond}
use lib.Dec.{leb}
use lib.ListN.{length}
use mathlib.Core.List.{Memᴰ}
use mathlib.Core.Path.{◌≡◌, refl, subst, sym, ap, ◌∙◌}
use Rattle.word.specs.Word.{is_width}
use Rattle.word.proofs.Tests.{and_true as and_parts, by_test}
use Rattle.block.specs.SetUp.{runs}
use Rattle.machine.specs.declared.Answer.{Answer}
use Rattle.machine.specs.declared.Answer.TheVariants.{Running, Finished, Refused}
use Rattle.machine.specs.declared.Refusal.{Refusal}
use Rattle.machine.specs.declared.Report.{Report}
use Rattle.machine.specs.declared.Refusal.TheVariants.{Unsound, NoWidth}
use Rattle.machine.specs.Answer.{Checked, refused, passed}
use Rattle.machine.specs.State.{is_finished}
use Rattle.machine.specs.Storage.{no_report}
use Rattle.machine.specs.Sound.{Lent, Engine, sound, sound_engine}
use Rattle.machine.specs.Locate.{live_blocks}
use Rattle.machine.specs.Effects.{Effects}
use Rattle.machine.specs.Step.{Outcome, plan, unchanged, carried_out, outcome, step_at, step}
use Rattle.machine.proofs.Facts.{Facts, sound_facts}
use Rattle.machine.proofs.Moves.{Moves, still, frees, delivers}
use Rattle.machine.proofs.Plan.{Planned, setting_up, moving, planned}

-- what a step comes to
pub data Stepping (b : ℕ) (l : Lent) (e : Engine) (o : Outcome) : Type 0 where
  refusing : (r : Refusal) → o ≡ unchanged (Refused r) l e → Stepping b l e o
  staying : is_finished e.state.core.place ≡ true → o ≡ unchanged Finished l e → Stepping b l e o
  forward : (x : Effects) → Facts b e → is_finished e.state.core.place ≡ false → plan b l e ≡ passed x
      → o ≡ carried_out b x l e → Stepping b l e o

-- a sound state is sound whatever is lent
pub sound_engine_lem : (b : ℕ) (l : Lent) (e : Engine) → sound b l e ≡ true → Facts b e
unfolding sound
sound_engine_lem b l e s =
    let inputs = leb e.state.core.taken (length l.input) in
    let outputs = leb e.state.core.written (length l.output) in
    sound_facts b e (and_parts (sound_engine b e) inputs (and_parts (sound_engine b e && inputs) outputs s).0).0

-- a step leaves all as it was, or carries out the effects of its plan
pub stepping_at : (b : ℕ) (l : Lent) (e : Engine) → Stepping b l e (step_at b l e)
unfolding step_at outcome
stepping_at b l e =
    elim (sound b l e) as (λ t. sound b l e ≡ t → Stepping b l e (cond t (cond (is_finished e.state.core.place) (unchanged Finished l e)
    (outcome b (plan b l e) l e)) (unchanged (Refused Unsound) l e))) [
      | true ↦ λ s. elim (is_finished e.state.core.place) as (λ t. is_finished e.state.core.place ≡ t
          → Stepping b l e (cond t (unchanged Finished l e) (outcome b (plan b l e) l e)))
          [ true ↦ λ f. staying f refl | false ↦ λ f. go (sound_engine_lem b l e s) f (plan b l e) refl ] refl
      | false ↦ λ s. refusing Unsound refl
    ] refl
  where
    go : Facts b e → is_finished e.state.core.place ≡ false → (p : Checked Effects) → plan b l e ≡ p
        → Stepping b l e (outcome b p l e)
    go h f (refused r) k = refusing r refl
    go h f (passed x) k = forward x h f k refl

-- a step goes by the state's width, or is refused by 31
pub by_width : (l : Lent) (e : Engine) (P : Outcome → Type 0) → (is_width e.state.width ≡ true → P (step_at e.state.width l e))
    → (is_width e.state.width ≡ false → P (unchanged (Refused NoWidth) l e)) → P (step l e)
unfolding step
by_width l e P at_width none =
    by_test (λ t. P (cond t (step_at e.state.width l e) (unchanged (Refused NoWidth) l e))) (is_width e.state.width) at_width none

-- where the width is one, it is a step of words of that many bits
pub step_is : (b : ℕ) (l : Lent) (e : Engine) → e.state.width ≡ b → is_width b ≡ true → step l e ≡ step_at b l e
unfolding step
step_is b l e same wide = rw (same, wide)

pub stepping : (l : Lent) (e : Engine) → Stepping e.state.width l e (step l e)
stepping l e =
    by_width l e (Stepping e.state.width l e) (λ _. stepping_at e.state.width l e) (λ _. refusing NoWidth refl)

-- a step that carries effects out is not refused
never_refused : (t : Bool) (r : Refusal) → cond t Finished Running ≡ Refused r → ⊥
never_refused true r k = let never : ◌≡◌ {A = ℕ} 0 1 = cc in omega arith
never_refused false r k = let never : ◌≡◌ {A = ℕ} 0 1 = cc in omega arith

-- all is as it was: state, storage and output, and the report has zeros
pub record AsBefore (l : Lent) (e : Engine) (o : Outcome) : Type 0 where
  pub state : o.stepped.state ≡ e.state
  pub storage : o.storage ≡ e.storage
  pub output : o.output ≡ l.output
  pub report : o.stepped.report ≡ no_report

unchanged_as_before : (answer : Answer) (l : Lent) (e : Engine) → AsBefore l e (unchanged answer l e)
unfolding unchanged
unchanged_as_before answer l e = record { state = refl; storage = refl; output = refl; report = refl }

-- a refused step changes no state, storage word or output byte
pub refused_changes_nothing : (l : Lent) (e : Engine) (r : Refusal)
    → (step l e).stepped.answer ≡ Refused r → AsBefore l e (step l e)
unfolding carried_out
refused_changes_nothing l e r k = go (stepping l e)
  where
    go : Stepping e.state.width l e (step l e) → AsBefore l e (step l e)
    go (refusing r' o) = subst (AsBefore l e) (sym o) (unchanged_as_before (Refused r') l e)
    go (staying f o) = subst (AsBefore l e) (sym o) (unchanged_as_before Finished l e)
    go (forward x h f p o) =
        absurd (never_refused (is_finished x.state.core.place) r (sym (ap (λ (o : Outcome). o.stepped.answer) o) ∙ k))

-- a finished engine answers finished and changes nothing
pub finished_stays : (l : Lent) (e : Engine) → is_width e.state.width ≡ true → sound e.state.width l e ≡ true
    → is_finished e.state.core.place ≡ true → ((step l e).stepped.answer ≡ Finished) × AsBefore l e (step l e)
unfolding step step_at unchanged
finished_stays l e w s f = rw (w, s, f) (refl, unchanged_as_before Finished l e)

-- the lowest of the aligned runs of n words outside the live blocks
pub record LowestRun (e : Engine) (n at : ℕ) : Type 0 where
  pub is_run : Memᴰ at (runs n e.state.core.setup (live_blocks e))
  pub is_lowest : (a : ℕ) → Memᴰ a (runs n e.state.core.setup (live_blocks e)) → at ≤ a

-- where a report has a delivery, it is the lowest aligned run of its size outside the live blocks
abbrev pub DeliversRun : Engine → Report → Type 0
DeliversRun e r = (r.size ≡ 0 → ⊥) → LowestRun e r.size r.delivered

planned_run : (b : ℕ) (l : Lent) (e : Engine) (x : Effects) → Planned b l e x → DeliversRun e x.report
unfolding no_report
planned_run b l e x (setting_up _ _ m) some = absurd (some (ap (λ (r : Report). r.size) m.report))
planned_run b l e x (moving _ m) some = go m.moves
  where
    go : Moves b e.state.core.setup e.state.map x
        → LowestRun e x.report.size x.report.delivered
    go (still m) = absurd (some m.size)
    go (frees m) = absurd (some m.size)
    go (delivers m) = rw m.size (record { is_run = m.is_run; is_lowest = m.is_lowest })

pub delivered_run : (l : Lent) (e : Engine) → DeliversRun e (step l e).stepped.report
unfolding unchanged carried_out no_report
delivered_run l e = go (stepping l e)
  where
    go : Stepping e.state.width l e (step l e) → DeliversRun e (step l e).stepped.report
    go (refusing r o) = subst (λ (o : Outcome). DeliversRun e o.stepped.report) (sym o) (λ some. absurd (some refl))
    go (staying f o) = subst (λ (o : Outcome). DeliversRun e o.stepped.report) (sym o) (λ some. absurd (some refl))
    go (forward x h f p o) =
        subst (λ (o : Outcome). DeliversRun e o.stepped.report) (sym o) (planned_run e.state.width l e x (planned e.state.width l e h f x p))

-- a step leaves the width
pub step_width : (b : ℕ) (l : Lent) (e : Engine) → (step_at b l e).stepped.state.width ≡ e.state.width
unfolding unchanged carried_out
step_width b l e = go (stepping_at b l e)
  where
    kept : (o : Outcome) → step_at b l e ≡ o → o.stepped.state.width ≡ e.state.width → (step_at b l e).stepped.state.width ≡ e.state.width
    kept o is same = rw is same

    go : Stepping b l e (step_at b l e) → (step_at b l e).stepped.state.width ≡ e.state.width
    go (refusing r o) = kept _ o refl
    go (staying f o) = kept _ o refl
    go (forward x h f p o) = kept _ o refl
