-- What a step plans at each kind of place, by the checks that led there. Assumes nothing.
use Prim.Native.Nat.{ℕ}
use native.Mathlib.Omega.{arith}
use mathlib.Core.Bool.{Bool, true, false, cond}
use mathlib.Core.List.{List}
use mathlib.Core.Path.{◌≡◌, ◌∙◌}
use borrow.Author.Tests.{eq-eqb, ne_eqb, lt-ltb, le-ltb}
use lib.Dec.{eqb, ltb}
use lib.ListN.{length}
use Rattle.table.specs.declared.Row.{Row}
use Rattle.table.specs.Row.{rows, row_at}
use Rattle.table.specs.Table.{usable}
use Rattle.machine.specs.declared.Place.{Place}
use Rattle.machine.specs.declared.Refusal.{Refusal}
use Rattle.machine.specs.declared.Refusal.TheVariants.{BeforeSetUp, SecondSetUp, StackEmpty}
use Rattle.machine.specs.Answer.{refused, passed, ◌>>=◌, ◌>>◌, need}
use Rattle.machine.specs.State.{tests_of, the_end}
use Rattle.machine.specs.Locate.{World}
use Rattle.machine.specs.Step.{next_line, operation_or_exit}
use Rattle.machine.specs.Test.{satisfied}
use Rattle.machine.proofs.Checks.{need_yes, need_no, bind_yes, bind_no}
use Rattle.operations.specs.Deeds.{Deed}
use Rattle.operations.specs.Deeds.{Return}
use Rattle.operations.specs.Seen.{Sight}
use Rattle.operations.specs.Plans.{set_up_plan, plan_of}
use Rattle.plans.specs.Steps.{going_to, tests_plan, ordered_plan, operation_plan, exit_plan, step_plan}

-- at a line's tests
module _ (b : ℕ) (w : World) (table : List ℕ) (r : ℕ) (u : usable 1 b table r ≡ true) {row : Row} (e : row ≡ row_at table r) where
  pub tests_stopped : {q : Refusal} → satisfied b table w row.code (rows table) row.first.form ≡ refused q → tests_plan b w table r ≡ refused q
  unfolding tests_plan
  tests_stopped k = need_yes _ _ _ u ∙ rw (← e) (bind_no _ _ k)

  module _ {h : Bool} (k : satisfied b table w row.code (rows table) row.first.form ≡ passed h) {p : Place} where
    pub tests_hold : h ≡ true → p ≡ operation_or_exit row.first.value r → tests_plan b w table r ≡ passed (going_to p)
    unfolding tests_plan need ◌>>◌ ◌>>=◌
    tests_hold held is = rw (u, ← e, k, held, is)

    pub tests_fail : h ≡ false → p ≡ next_line row.next → tests_plan b w table r ≡ passed (going_to p)
    unfolding tests_plan need ◌>>◌ ◌>>=◌
    tests_fail other is = rw (u, ← e, k, other, is)

-- an operation: 13 or 12, and then by its code
module _ (b : ℕ) (s : Sight) (row : Row) where
  module _ (one : row.code ≡ 1) where
    pub second_set_up : (s.world.setup.d ≡ 0 → ⊥) → ordered_plan b s row ≡ refused SecondSetUp
    unfolding ordered_plan
    second_set_up some = rw one (need_no _ _ _ (ne_eqb _ _ some))

    pub first_set_up : s.world.setup.d ≡ 0 → ordered_plan b s row ≡ set_up_plan (length s.world.storage) row
    unfolding ordered_plan
    first_set_up none = rw one (need_yes _ _ _ (eq-eqb _ _ none))

  module _ (other : row.code ≡ 1 → ⊥) where
    pub before_set_up : s.world.setup.d ≡ 0 → ordered_plan b s row ≡ refused BeforeSetUp
    unfolding ordered_plan
    before_set_up none = rw (ne_eqb row.code 1 other) (need_no _ _ _ (rw (eq-eqb _ _ none)))

    pub by_code : (s.world.setup.d ≡ 0 → ⊥) → ordered_plan b s row ≡ plan_of b s row
    unfolding ordered_plan
    by_code some = rw (ne_eqb row.code 1 other) (need_yes _ _ _ (rw (ne_eqb _ _ some)))

-- at an operation: its action, and the place after it
module _ (b : ℕ) (s : Sight) (table : List ℕ) (place : Place) (u : usable 3 b table place.row ≡ true) {row : Row} (e : row ≡ row_at table place.row) where
  pub operation_goes : {x : Deed} → ordered_plan b s row ≡ passed x → {to : Place}
      → to ≡ operation_or_exit row.next place.line → operation_plan b s table place ≡ passed (record { to = to; action = x })
  unfolding operation_plan
  operation_goes is at = need_yes _ _ _ u ∙ rw (← e, at) (bind_yes _ _ is)

  pub operation_stops : {q : Refusal} → ordered_plan b s row ≡ refused q → operation_plan b s table place ≡ refused q
  unfolding operation_plan
  operation_stops is = need_yes _ _ _ u ∙ rw (← e) (bind_no _ _ is)

-- at a line's exit
module _ (b calls : ℕ) (table : List ℕ) (r : ℕ) (u : usable 1 b table r ≡ true) {row : Row} (e : row ≡ row_at table r) where
  module _ (done : row.second.form ≡ 65535) where
    to_return : exit_plan b calls table r ≡ (need (ltb 0 calls) StackEmpty >> passed (record { to = the_end; action = Return }))
    unfolding exit_plan
    to_return = need_yes _ _ _ u ∙ rw (← e, eq-eqb _ _ done)

    pub exit_empty : calls ≡ 0 → exit_plan b calls table r ≡ refused StackEmpty
    exit_empty none = to_return ∙ need_no _ _ _ (le-ltb 0 calls (omega arith))

    pub exit_returns : (calls ≡ 0 → ⊥) → {p : Place} → p ≡ next_line 0 → exit_plan b calls table r ≡ passed (record { to = p; action = Return })
    unfolding next_line
    exit_returns some is = to_return ∙ need_yes _ _ _ (lt-ltb 0 calls (omega arith)) ∙ rw is

  module _ (other : row.second.form ≡ 65535 → ⊥) where
    to_go : exit_plan b calls table r
        ≡ passed (going_to (cond (eqb row.second.form 0) (next_line row.next) (tests_of row.second.form)))
    unfolding exit_plan
    to_go = need_yes _ _ _ u ∙ rw (← e, ne_eqb _ _ other)

    pub exit_next : row.second.form ≡ 0 → {p : Place} → p ≡ next_line row.next → exit_plan b calls table r ≡ passed (going_to p)
    exit_next none is = to_go ∙ rw (eq-eqb _ _ none, is)

    pub exit_goes : (row.second.form ≡ 0 → ⊥) → {p : Place} → p ≡ tests_of row.second.form → exit_plan b calls table r ≡ passed (going_to p)
    exit_goes some is = to_go ∙ rw (ne_eqb _ _ some, is)

-- by the kind of the place
module _ (b : ℕ) (s : Sight) (table : List ℕ) (place : Place) where
  pub kind_tests : place.kind ≡ 0 → step_plan b s table place ≡ tests_plan b s.world table place.line
  unfolding step_plan
  kind_tests e = rw e

  pub kind_operation : place.kind ≡ 1 → step_plan b s table place ≡ operation_plan b s table place
  unfolding step_plan
  kind_operation e = rw e

  pub kind_exit : (place.kind ≡ 0 → ⊥) → (place.kind ≡ 1 → ⊥) → step_plan b s table place ≡ exit_plan b s.counts.calls table place.line
  unfolding step_plan
  kind_exit t o = rw (ne_eqb _ _ t, ne_eqb _ _ o)
