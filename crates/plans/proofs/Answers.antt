-- What is told of answers, made and taken apart. Assumes nothing.
use Rattle.std.specs.Prelude.{Result, Ok, Err}
use Rattle.std.specs.Result.{IsErrAnd}
use mathlib.Core.Bool.{Bool}
use mathlib.Core.Path.{◌≡◌, sym, ap, ◌∙◌}
use Rattle.word.specs.Told.{Told}
use Rattle.machine.specs.declared.Place.{Place}
use Rattle.machine.specs.declared.Refusal.{Refusal}
use Rattle.machine.specs.Answer.{Checked, refused, passed, told}
use Rattle.machine.specs.Test.{Made}
use Rattle.machine.proofs.Numbers.{told_passed, told_refused}
use Rattle.operations.specs.declared.Action.{Action}
use Rattle.operations.specs.declared.Action.TheVariants as nothing
use Rattle.operations.specs.Deeds.{Nothing, meant}
use Rattle.plans.specs.declared.Outcome.{Outcome}
use Rattle.plans.specs.declared.Step.{Step}
use Rattle.plans.specs.declared.Step.TheVariants.{Goes, Stopped}
use Rattle.operands.proofs.Answers.{exits}
use Rattle.plans.specs.Answers.{told_tested, told_settled, Plan, told_step}

-- a plan of a step
module _ {k : Checked Plan} where
  pub goes : {to : Place} (x : Action) → k ≡ passed (record { to = to; action = meant x }) → told_step (Goes to x) ≡ told k
  unfolding told_step told
  goes x e = rw e

  pub goes_there : {to : Place} {answer : Step} → answer ≡ Goes to nothing.Nothing → k ≡ passed (record { to = to; action = Nothing })
      → told_step answer ≡ told k
  unfolding told_step told meant
  goes_there is e = rw (is, e)

  pub halts : {r : Refusal} → k ≡ refused r → told_step (Stopped r) ≡ told k
  unfolding told_step told
  halts e = rw e

  pub leads : {j : Checked Plan} {t : Told Plan} → k ≡ j → t ≡ told j → t ≡ told k
  leads e is = rw e is

module _ (k : Checked Plan) {answer : Step} (is : told_step answer ≡ told k) where
  pub goes_is : {to : Place} {x : Action} → answer ≡ Goes to x → k ≡ passed (record { to = to; action = meant x })
  unfolding told_step
  goes_is made = told_passed k (sym (ap told_step made) ∙ is)

  pub halts_is : {r : Refusal} → answer ≡ Stopped r → k ≡ refused r
  unfolding told_step
  halts_is made = told_refused k (sym (ap told_step made) ∙ is)

-- a test
module _ (k : Checked Made) {answer : Result Outcome Refusal} (is : told_tested answer ≡ told k) where
  pub outcome_is : {x : Outcome} → answer ≡ Ok x → k ≡ passed (record { holds = x.holds; next = x.next })
  unfolding told_tested
  outcome_is to = told_passed k (sym (ap told_tested to) ∙ is)

  pub no_outcome_is : {r : Refusal} → answer ≡ Err r → k ≡ refused r
  unfolding told_tested
  no_outcome_is to = told_refused k (sym (ap told_tested to) ∙ is)

module _ {k : Checked Made} where
  pub tests_to : (x : Outcome) → k ≡ passed (record { holds = x.holds; next = x.next }) → told_tested (Ok x) ≡ told k
  unfolding told_tested told
  tests_to x e = rw e

  pub test_stops : {r : Refusal} → k ≡ refused r → told_tested (Err r) ≡ told k
  unfolding told_tested told
  test_stops e = rw e

  pub exits_test : (answer : Result Outcome Refusal) {r : Refusal} → IsErrAnd answer (λ y. y ≡ r) → k ≡ refused r → told_tested answer ≡ told k
  exits_test answer is e = ap told_tested (exits is) ∙ test_stops e

-- a line's tests
module _ (k : Checked Bool) {answer : Result Bool Refusal} (is : told_settled answer ≡ told k) where
  pub holds_is : {h : Bool} → answer ≡ Ok h → k ≡ passed h
  unfolding told_settled
  holds_is to = told_passed k (sym (ap told_settled to) ∙ is)

  pub not_settled_is : {r : Refusal} → answer ≡ Err r → k ≡ refused r
  unfolding told_settled
  not_settled_is to = told_refused k (sym (ap told_settled to) ∙ is)
