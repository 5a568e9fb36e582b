-- What is told of answers, made and taken apart. Assumes nothing.
use Rattle.std.specs.Prelude.{Result, Ok, Err}
use Rattle.std.specs.Result.{IsErrAnd}
use Prim.Native.Nat.{ℕ}
use native.Mathlib.Omega.{arith}
use mathlib.Core.Path.{◌≡◌, sym, ap, ◌∙◌}
use Rattle.word.specs.Told.{Told}
use Rattle.machine.specs.declared.Refusal.{Refusal}
use Rattle.machine.specs.Answer.{Checked, refused, passed, told}
use Rattle.machine.proofs.Checks.{passed_same}
use Rattle.machine.proofs.Numbers.{told_passed, told_refused}
use Rattle.operations.specs.declared.Action.{Action}
use Rattle.operations.specs.Deeds.{Deed, meant}
use Rattle.operations.specs.declared.Run.{Run}
use Rattle.operands.proofs.Answers.{exits}
use Rattle.operations.specs.Answers.{told_planned, told_computed, told_fetched, fetched}

-- a plan of an action, by what its checks come to
module _ {k : Checked Deed} where
  pub does : (x : Action) → k ≡ passed (meant x) → told_planned (Ok x) ≡ told k
  unfolding told_planned told
  does x e = rw e

  pub stops : {r : Refusal} → k ≡ refused r → told_planned (Err r) ≡ told k
  unfolding told_planned told
  stops e = rw e

  -- at the exit of a `?`
  pub exits_planned : (answer : Result Action Refusal) {r : Refusal} → IsErrAnd answer (λ y. y ≡ r) → k ≡ refused r → told_planned answer ≡ told k
  exits_planned answer is e = ap told_planned (exits is) ∙ stops e

  pub follows : {j : Checked Deed} {t : Told Deed} → k ≡ j → t ≡ told j → t ≡ told k
  follows e is = rw e is

module _ (k : Checked Deed) {answer : Result Action Refusal} (is : told_planned answer ≡ told k) where
  pub plan_is : {x : Action} → answer ≡ Ok x → k ≡ passed (meant x)
  unfolding told_planned
  plan_is made = told_passed k (sym (ap told_planned made) ∙ is)

  pub no_plan_is : {r : Refusal} → answer ≡ Err r → k ≡ refused r
  unfolding told_planned
  no_plan_is made = told_refused k (sym (ap told_planned made) ∙ is)

-- a value that is made, or not
module _ (k : Checked ℕ) {answer : Result ℕ Refusal} (is : told_computed answer ≡ told k) where
  pub made_is : {v : ℕ} → answer ≡ Ok v → k ≡ passed v
  unfolding told_computed
  made_is to = told_passed k (sym (ap told_computed to) ∙ is)

  pub not_made_is : {r : Refusal} → answer ≡ Err r → k ≡ refused r
  unfolding told_computed
  not_made_is to = told_refused k (sym (ap told_computed to) ∙ is)

-- a run that is fetched, or not
run_parts : (n : ℕ) (k : Checked ℕ) {run : Run} → fetched n k ≡ passed run → (k ≡ passed run.address) × (run.size ≡ n)
unfolding fetched
run_parts n (passed y) {run} e =
    let same : ◌≡◌ {A = Run} (record { address = y; size = n }) run = passed_same e in
    (ap passed (ap (λ (x : Run). x.address) same), sym (ap (λ (x : Run). x.size) same))
run_parts n (refused q) e = let never : ◌≡◌ {A = ℕ} 0 1 = cc in absurd (omega arith)

no_run : (n : ℕ) (k : Checked ℕ) {r : Refusal} → fetched n k ≡ refused r → k ≡ refused r
unfolding fetched
no_run n (passed y) e = let never : ◌≡◌ {A = ℕ} 0 1 = cc in absurd (omega arith)
no_run n (refused q) {r} e = let same : q ≡ r = cc in ap refused same

module _ (n : ℕ) (k : Checked ℕ) {answer : Result Run Refusal} (is : told_fetched answer ≡ told (fetched n k)) where
  pub run_is : {run : Run} → answer ≡ Ok run → (k ≡ passed run.address) × (run.size ≡ n)
  unfolding told_fetched
  run_is to = run_parts n k (told_passed (fetched n k) (sym (ap told_fetched to) ∙ is))

  pub no_run_is : {r : Refusal} → answer ≡ Err r → k ≡ refused r
  unfolding told_fetched
  no_run_is to = no_run n k (told_refused (fetched n k) (sym (ap told_fetched to) ∙ is))
