-- What an operation plans, by its code. Assumes nothing.
use Prim.Native.Nat.{ℕ, ◌≤◌, ◌<◌}
use native.Mathlib.Omega.{arith}
use mathlib.Core.Bool.{cond}
use mathlib.Core.List.{List}
use mathlib.Core.Path.{◌≡◌, ◌∙◌}
use borrow.Author.Tests.{ne_eqb, lt-ltb, le-ltb}
use lib.Dec.{eqb}
use Rattle.table.specs.declared.Row.{Row}
use Rattle.machine.specs.Locate.{World}
use Rattle.machine.proofs.Checks.{cond_yes, cond_no}
use Rattle.operations.specs.declared.Counts.{Counts}
use Rattle.operations.specs.Seen.{Sight}
use Rattle.operations.specs.Plans.{define_plan, swap_plan, print_plan, two_plan, contents_plan, record_plan, stack_plan, plan_of, Acts}

-- the stacks
module _ (b : ℕ) (w : World) (counts : Counts) (entries : List ℕ) (row : Row) where
  pub stack_records : 33 < row.code → stack_plan b w counts entries row ≡ record_plan counts.saved counts.calls row
  unfolding stack_plan
  stack_records h = cond_yes _ _ _ (lt-ltb 33 row.code h)

  pub stack_contents : row.code ≤ 33 → stack_plan b w counts entries row ≡ contents_plan b w counts.contents entries row
  unfolding stack_plan
  stack_contents h = cond_no _ _ _ (le-ltb 33 row.code h)

-- an operation by its code
module _ (b : ℕ) (s : Sight) (row : Row) where
  pub code_stacks : 31 < row.code → plan_of b s row ≡ stack_plan b s.world s.counts s.entries row
  unfolding plan_of
  code_stacks h = cond_yes _ _ _ (lt-ltb 31 row.code h)

  module _ (low : row.code ≤ 31) where
    rest : plan_of b s row
        ≡ cond (eqb row.code 2) (define_plan b s.world row)
        (cond (eqb row.code 7) (swap_plan b s.world row)
        (cond (eqb row.code 25) (print_plan b s.world s.counts.written s.room row)
        (two_plan b s.world s.counts.taken s.input row)))
    unfolding plan_of
    rest = cond_no _ _ _ (le-ltb 31 row.code low)

    pub code_define : row.code ≡ 2 → plan_of b s row ≡ define_plan b s.world row
    code_define e = rest ∙ rw e

    pub code_swap : row.code ≡ 7 → plan_of b s row ≡ swap_plan b s.world row
    code_swap e = rest ∙ rw e

    pub code_print : row.code ≡ 25 → plan_of b s row ≡ print_plan b s.world s.counts.written s.room row
    code_print e = rest ∙ rw e

    pub code_two : (row.code ≡ 2 → ⊥) → (row.code ≡ 7 → ⊥) → (row.code ≡ 25 → ⊥)
        → plan_of b s row ≡ two_plan b s.world s.counts.taken s.input row
    code_two d i p = rest ∙ rw (ne_eqb row.code 2 d, ne_eqb row.code 7 i, ne_eqb row.code 25 p)

-- the codes of the operations (a, x) that are no interchange
pub acts : {code : ℕ} → 2 ≤ code → code ≤ 31 → (code ≡ 2 → ⊥) → (code ≡ 7 → ⊥) → (code ≡ 25 → ⊥) → Acts code
acts low high d i p = record { low = omega arith; high = high; no_interchange = i; no_print = p }
