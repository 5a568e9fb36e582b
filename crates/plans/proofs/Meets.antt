-- A plan, with the effects that its action stands for, is the plan of the machine's definitions.
-- Assumes nothing.
use Prim.Native.Nat.{ℕ, ◌≤◌, ◌<◌}
use native.Mathlib.Omega.{arith}
use mathlib.Core.Bool.{Bool, true, false, not, ◌||◌, cond}
use mathlib.Core.Path.{◌≡◌, refl, sym, ap, ◌∙◌}
use borrow.Author.Tests.{eq-eqb, ne_eqb, le-ltb}
use lib.Dec.{eqb, ltb}
use lib.ListN.{length}
use Rattle.word.proofs.Tests.{by_leb, by_eqb}
use Rattle.block.specs.Blocks.{size, level}
use Rattle.block.specs.SetUp.{top}
use Rattle.table.specs.declared.Row.{Row}
use Rattle.table.specs.Row.{length_fits, rows, row_at, first_test, go_to_of, done}
use Rattle.table.specs.Table.{usable}
use Rattle.machine.specs.declared.Location.{Location}
use Rattle.machine.specs.declared.Refusal.{Refusal}
use Rattle.machine.specs.declared.Refusal.TheVariants.{TableLength, BeforeSetUp, SecondSetUp}
use Rattle.machine.specs.Answer.{Checked, refused, passed, ◌>>=◌, ◌>>◌, need}
use Rattle.machine.specs.State.{moved_to, with_calls, on_core, is_set_up}
use Rattle.machine.specs.Sound.{Lent, Engine}
use Rattle.machine.specs.Locate.{World, Value, world, definition_of, contents, locate, operand}
use Rattle.machine.specs.Test.{satisfied}
use Rattle.machine.specs.Effects.{Effects, quietly, engine_after}
use Rattle.machine.specs.Operations.{Given, Meaning, Operation, own, computes, makes, operations, operation_of, meaning_of, meaning}
use Rattle.machine.specs.Operations.{set_up, the_name, define, get, get_wants, lowest_run, free, duplicate, duplicate_wants, interchange}
use Rattle.machine.specs.Operations.{computing, input, print, save_contents, restore_contents, save_definition, restore_definition}
use Rattle.machine.specs.Operations.{do_line, and_storing}
use Rattle.machine.specs.Operations as machine
use Rattle.machine.specs.Step.{going_to, tests_step, in_turn, given, operation_step, return, exit_step, plan, operation_or_exit}
use Rattle.machine.proofs.Checks.{need_bind, bind_bind, bind_same, cond_bind, need_when, need_same, need_yes, bind_yes, bind_no}
use Rattle.machine.proofs.Checks.{clash}
use Rattle.machine.proofs.Facts.{Facts}
use Rattle.machine.proofs.Located.{located}
use Rattle.operations.specs.Deeds.{Deed}
use Rattle.operations.specs.Deeds.{Store}
use Rattle.operations.specs.Seen.{sight}
use Rattle.operations.specs.Plans.{set_up_plan, defining, define_plan, size_of, after_delivery, delivering, getting, freeing}
use Rattle.operations.specs.Plans.{duplicating, taking, value_of, value_by, Computes, storing, acting, two_plan, swap_plan, printing}
use Rattle.operations.specs.Plans.{print_plan, contents_plan, record_plan, stack_plan, plan_of}
use Rattle.plans.specs.Answers.{Plan}
use Rattle.plans.specs.Steps.{tests_plan, ordered_plan, operation_plan, exit_plan, step_plan}
use Rattle.operations.specs.Effects.{effects}
use Rattle.plans.proofs.Shapes.{all_below, at_below, operates}
use Rattle.operands.proofs.Reported.{NotNull}
use Rattle.plans.proofs.Stores.{not_null, after_delivery_lem}

-- going on from what is found
bind_when : {A B : Type 0} (m : Checked A) {f g : A → Checked B} → ((x : A) → m ≡ passed x → f x ≡ g x) → (m >>= f) ≡ (m >>= g)
unfolding ◌>>=◌
bind_when (passed x) h = h x refl
bind_when (refused r) h = refl

-- the operations that compute
unfoldable is_computing : Operation → Bool
is_computing (own m) = false
is_computing (computes f) = true

unfoldable is_computed : ℕ → Bool
is_computed code = ltb code 6 || (eqb code 7 || (eqb code 24 || (eqb code 25 || is_computing (operation_of code))))

all_computed : all_below is_computed 32 ≡ true
unfolding all_below is_computed is_computing operation_of operations makes
all_computed = refl

computing_by : (o : Operation) → is_computing o ≡ true → meaning_of o ≡ computing (value_of o)
unfolding is_computing meaning_of value_of
computing_by (own m) k = clash k
computing_by (computes f) k = refl

computes_as : (code : ℕ) → Computes code → meaning code ≡ computing (value_by code)
unfolding meaning value_by is_computed
computes_as code h =
    let k = at_below is_computed 32 all_computed code (omega (arith, h.high)) in
    computing_by (operation_of code)
    (rw (le-ltb code 6 h.low, ne_eqb code 7 h.no_interchange, ne_eqb code 24 h.no_input, ne_eqb code 25 h.no_print) at k)

-- a code from 2 on that is none of 2 to 5
past_five : (code : ℕ) → 2 ≤ code → (code ≡ 2 → ⊥) → (code ≡ 3 → ⊥) → (code ≡ 4 → ⊥) → (code ≡ 5 → ⊥) → 6 ≤ code
past_five code low two three four five = omega arith

-- the operation of a row, of an engine that stands at the place after it
module _ (b : ℕ) (row : Row) (l : Lent) (e : Engine) where
  abbrev g : Given
  g = record { row = row; lent = l; engine = e }

  abbrev carried : Deed → Checked Effects
  carried x = passed (effects b x e.state)

  abbrev As : Checked Deed → Meaning → Type 0
  As x m = (x >>= carried) ≡ m b g

  -- 1 set up
  set_up_as : As (set_up_plan (length e.storage) row) set_up
  unfolding set_up_plan set_up effects quietly ◌>>=◌
  set_up_as = need_bind _ _ _ carried

  -- 2 define
  define_as : As (define_plan b (world e) row) define
  unfolding define_plan defining define the_name effects ◌>>=◌
  define_as =
      bind_bind (operand b (world e) row.first) _ carried
      ∙ bind_same (operand b (world e) row.first)
      (λ word. bind_bind (operand b (world e) row.second) _ carried
      ∙ bind_same (operand b (world e) row.second)
      (λ left. bind_bind (operand b (world e) row.third) _ carried
      ∙ bind_same (operand b (world e) row.third) (λ right. need_bind _ _ _ carried)))

  -- 7 interchange
  swap_as : As (swap_plan b (world e) row) interchange
  unfolding swap_plan interchange effects ◌>>=◌
  swap_as =
      bind_bind (locate b (world e) row.first) _ carried
      ∙ bind_same (locate b (world e) row.first) (λ a. bind_bind (locate b (world e) row.second) _ carried)

  -- 25 print
  print_as : As (print_plan b (world e) e.state.core.written (length l.output) row) print
  unfolding print_plan printing print effects quietly ◌>>=◌
  print_as =
      bind_bind (operand b (world e) row.first) _ carried
      ∙ bind_same (operand b (world e) row.first)
      (λ n. bind_bind (operand b (world e) row.second) _ carried
      ∙ bind_same (operand b (world e) row.second)
      (λ x. need_bind _ _ _ carried ∙ need_same _ _ (need_bind _ _ _ carried)))

  -- 32 save contents, 33 restore contents
  save_as : row.code ≡ 32 → As (contents_plan b (world e) e.state.core.contents.count e.state.core.contents.entries row) save_contents
  unfolding contents_plan save_contents effects ◌>>=◌
  save_as is =
      bind_bind (locate b (world e) row.first) _ carried
      ∙ bind_same (locate b (world e) row.first) (λ a. rw (eq-eqb row.code 32 is) (need_bind _ _ _ carried))

  restore_as : (row.code ≡ 32 → ⊥) → As (contents_plan b (world e) e.state.core.contents.count e.state.core.contents.entries row) restore_contents
  unfolding contents_plan restore_contents effects ◌>>=◌
  restore_as is =
      bind_bind (locate b (world e) row.first) _ carried
      ∙ bind_same (locate b (world e) row.first) (λ a. rw (ne_eqb row.code 32 is) (need_bind _ _ _ carried))

  -- 34 save a definition, 35 restore it, 36 DO
  save_definition_as : row.code ≡ 34 → As (record_plan e.state.core.saved.count e.state.core.calls.count row) save_definition
  unfolding record_plan save_definition the_name definition_of world effects ◌>>=◌
  save_definition_as is = rw (eq-eqb row.code 34 is) (need_bind _ _ _ carried)

  restore_definition_as : row.code ≡ 35 → As (record_plan e.state.core.saved.count e.state.core.calls.count row) restore_definition
  unfolding record_plan restore_definition the_name effects on_core ◌>>=◌
  restore_definition_as is = rw (ne_eqb row.code 34 (λ z. absurd (omega arith)), eq-eqb row.code 35 is) (need_bind _ _ _ carried)

  call_as : row.code ≡ 36 → As (record_plan e.state.core.saved.count e.state.core.calls.count row) do_line
  unfolding record_plan do_line effects on_core ◌>>=◌
  call_as is =
      rw (ne_eqb row.code 34 (λ z. absurd (omega arith)), ne_eqb row.code 35 (λ z. absurd (omega arith))) (need_bind _ _ _ carried)

  -- an operation (a, x): a located, x taken, and then
  abbrev act : Location → Value → Checked Deed
  act a x = acting row.code b (world e) e.state.core.taken l.input row.third a x

  two_then : {h : Location → Value → Checked Effects}
      → ((a : Location) → locate b (world e) row.first ≡ passed a → (x : Value) → (act a x >>= carried) ≡ h a x)
      → (two_plan b (world e) e.state.core.taken l.input row >>= carried)
      ≡ (locate b (world e) row.first >>= λ a. operand b (world e) row.second >>= λ x. h a x)
  unfolding two_plan
  two_then k =
      bind_bind (locate b (world e) row.first) _ carried
      ∙ bind_when (locate b (world e) row.first)
      (λ a at. bind_bind (operand b (world e) row.second) _ carried ∙ bind_same (operand b (world e) row.second) (k a at))

  -- 3 get, once a run is found
  delivered_as : (a : Location) → NotNull a → (n address : ℕ)
      → (delivering b (world e) row.third a address n >>= carried)
      ≡ cond (eqb row.third.form 0) (passed (machine.delivering b (record { a = a; words = n; copied = 0 }) address e.state))
      (locate b (world (engine_after b (machine.delivering b (record { a = a; words = n; copied = 0 }) address e.state) e)) row.third
      >>= λ a2. passed (and_storing b a2 (contents b (world e) a) (machine.delivering b (record { a = a; words = n; copied = 0 }) address e.state)))
  unfolding delivering effects ◌>>=◌
  delivered_as a sure n address =
      cond_bind (eqb row.third.form 0) _ _ carried
      ∙ ap (cond (eqb row.third.form 0) (passed (machine.delivering b (record { a = a; words = n; copied = 0 }) address e.state)))
      (bind_bind (locate b (after_delivery b address n a (world e)) row.third) _ carried
      ∙ ap (λ (w : World). locate b w row.third
      >>= λ a2. passed (and_storing b a2 (contents b (world e) a) (machine.delivering b (record { a = a; words = n; copied = 0 }) address e.state)))
      (sym (after_delivery_lem b e address n a sure)))

  get_as : ((a : Location) → locate b (world e) row.first ≡ passed a → NotNull a) → row.code ≡ 3
      → As (two_plan b (world e) e.state.core.taken l.input row) get
  unfolding acting getting get get_wants lowest_run world ◌>>=◌
  get_as sure is =
      two_then
      (λ a at x. rw is
      (need_bind _ _ _ carried
      ∙ need_same _ _
      (bind_bind (lowest_run e.state.core.setup e.state.map (size (level (top e.state.core.setup.d) x.value))) _ carried
      ∙ bind_same (lowest_run e.state.core.setup e.state.map (size (level (top e.state.core.setup.d) x.value)))
      (delivered_as a (sure a at) (size (level (top e.state.core.setup.d) x.value))))))
      ∙ sym
      (bind_bind (locate b (world e) row.first) _ _
      ∙ bind_same (locate b (world e) row.first)
      (λ a. bind_bind (operand b (world e) row.second) _ _
      ∙ bind_same (operand b (world e) row.second) (λ x. need_bind _ _ _ _)))

  -- 4 free
  free_as : row.code ≡ 4 → As (two_plan b (world e) e.state.core.taken l.input row) free
  unfolding acting freeing free effects world ◌>>=◌
  free_as is = two_then (λ a at x. rw is (need_bind _ _ _ carried ∙ need_same _ _ (need_bind _ _ _ carried)))

  -- 5 duplicate
  duplicate_as : row.code ≡ 5 → As (two_plan b (world e) e.state.core.taken l.input row) duplicate
  unfolding acting duplicating duplicate duplicate_wants lowest_run effects world ◌>>=◌
  duplicate_as is =
      two_then
      (λ a at x. rw is
      (need_bind _ _ _ carried
      ∙ need_same _ _ (bind_bind (lowest_run e.state.core.setup e.state.map (size_of (world e) x.value)) _ carried)))
      ∙ sym
      (bind_bind (locate b (world e) row.first) _ _
      ∙ bind_same (locate b (world e) row.first)
      (λ a. bind_bind (operand b (world e) row.second) _ _
      ∙ bind_same (operand b (world e) row.second) (λ x. need_bind _ _ _ _)))

  -- 24 input
  input_as : row.code ≡ 24 → As (two_plan b (world e) e.state.core.taken l.input row) input
  unfolding acting taking input effects on_core ◌>>=◌
  input_as is =
      two_then
      (λ a at x. rw is
      (need_bind _ _ _ carried ∙ need_same _ _ (need_bind _ _ _ carried ∙ need_same _ _ (need_bind _ _ _ carried))))

  -- the others
  stored_as : (a : Location) (m : Checked ℕ) → (storing a m >>= carried) ≡ (m >>= λ v. carried (Store a v))
  unfolding storing ◌>>=◌
  stored_as a (passed v) = refl
  stored_as a (refused r) = refl

  computing_as : Computes row.code → As (two_plan b (world e) e.state.core.taken l.input row) (computing (value_by row.code))
  unfolding acting computing effects
  computing_as h =
      let low = h.low in
      two_then
      (λ a at x. rw (
        ne_eqb row.code 3 (λ z. absurd (omega arith)),
        ne_eqb row.code 4 (λ z. absurd (omega arith)),
        ne_eqb row.code 5 (λ z. absurd (omega arith)),
        ne_eqb row.code 24 h.no_input,
      )
      (stored_as a _))

  -- at a code that is known
  at_code : (x : Checked Deed) {k : ℕ} {m : Meaning} → row.code ≡ k → meaning k ≡ m → As x m → As x (meaning row.code)
  at_code x is same h = h ∙ sym (ap (λ (m : Meaning). m b g) (ap meaning is ∙ same))

  set_up_first : row.code ≡ 1 → As (set_up_plan (length e.storage) row) (meaning row.code)
  unfolding meaning meaning_of operation_of operations
  set_up_first is = at_code _ is refl set_up_as

  contents_as : row.code ≤ 33 → 31 < row.code
      → As (contents_plan b (world e) e.state.core.contents.count e.state.core.contents.entries row) (meaning row.code)
  unfolding meaning meaning_of operation_of operations
  contents_as high low =
      by_eqb (λ _. As (contents_plan b (world e) e.state.core.contents.count e.state.core.contents.entries row) (meaning row.code)) row.code 32
      (λ is. at_code _ is refl (save_as is))
      (λ other. let is : row.code ≡ 33 = omega arith in at_code _ is refl (restore_as other))

  record_as : row.code ≤ 36 → 33 < row.code → As (record_plan e.state.core.saved.count e.state.core.calls.count row) (meaning row.code)
  unfolding meaning meaning_of operation_of operations
  record_as high low =
      by_eqb (λ _. As (record_plan e.state.core.saved.count e.state.core.calls.count row) (meaning row.code)) row.code 34
      (λ is. at_code _ is refl (save_definition_as is))
      (λ other. by_eqb (λ _. As (record_plan e.state.core.saved.count e.state.core.calls.count row) (meaning row.code)) row.code 35
      (λ is. at_code _ is refl (restore_definition_as is))
      (λ another. let is : row.code ≡ 36 = omega arith in at_code _ is refl (call_as is)))

  stack_as : row.code ≤ 36 → 31 < row.code
      → As (stack_plan b (world e) (sight l e).counts e.state.core.contents.entries row) (meaning row.code)
  unfolding stack_plan
  stack_as high low =
      by_leb (λ t. As (cond t (record_plan e.state.core.saved.count e.state.core.calls.count row)
      (contents_plan b (world e) e.state.core.contents.count e.state.core.contents.entries row)) (meaning row.code)) 34 row.code
      (λ above. record_as high above)
      (λ below. contents_as (omega arith) low)

  module _ (sure : (a : Location) → locate b (world e) row.first ≡ passed a → NotNull a) where
    two_as : 2 ≤ row.code → row.code ≤ 31 → (row.code ≡ 2 → ⊥) → (row.code ≡ 7 → ⊥) → (row.code ≡ 25 → ⊥)
        → As (two_plan b (world e) e.state.core.taken l.input row) (meaning row.code)
    unfolding meaning meaning_of operation_of operations
    two_as low high noDefine no_interchange no_print =
        by_eqb (λ _. As plan_two (meaning row.code)) row.code 3
        (λ is. at_code _ is refl (get_as sure is))
        (λ noGet. by_eqb (λ _. As plan_two (meaning row.code)) row.code 4
        (λ is. at_code _ is refl (free_as is))
        (λ noFree. by_eqb (λ _. As plan_two (meaning row.code)) row.code 5
        (λ is. at_code _ is refl (duplicate_as is))
        (λ noDuplicate. by_eqb (λ _. As plan_two (meaning row.code)) row.code 24
        (λ is. at_code _ is refl (input_as is))
        (λ no_input.
        let h : Computes row.code = record {
          low = past_five row.code low noDefine noGet noFree noDuplicate;
          high = high;
          no_interchange = no_interchange;
          no_input = no_input;
          no_print = no_print;
        } in
        at_code _ refl (computes_as row.code h) (computing_as h)))))
      where
        plan_two : Checked Deed
        plan_two = two_plan b (world e) e.state.core.taken l.input row

    -- an operation but the set-up
    planned_as : 2 ≤ row.code → row.code ≤ 36 → As (plan_of b (sight l e) row) (meaning row.code)
    unfolding plan_of meaning meaning_of operation_of operations
    planned_as low high =
        by_leb (λ t. As (cond t (stack_plan b (world e) (sight l e).counts e.state.core.contents.entries row) others) (meaning row.code)) 32
        row.code
        (λ above. stack_as high above)
        (λ below. by_eqb (λ t. As (cond t (define_plan b (world e) row) (cond (eqb row.code 7) (swap_plan b (world e) row)
        (cond (eqb row.code 25) (print_plan b (world e) e.state.core.written (length l.output) row) plan_two))) (meaning row.code)) row.code 2
        (λ is. at_code _ is refl define_as)
        (λ noDefine. by_eqb (λ t. As (cond t (swap_plan b (world e) row)
        (cond (eqb row.code 25) (print_plan b (world e) e.state.core.written (length l.output) row) plan_two)) (meaning row.code)) row.code 7
        (λ is. at_code _ is refl swap_as)
        (λ no_interchange. by_eqb (λ t. As (cond t (print_plan b (world e) e.state.core.written (length l.output) row) plan_two)
        (meaning row.code)) row.code 25
        (λ is. at_code _ is refl print_as)
        (λ no_print. two_as low (omega arith) noDefine no_interchange no_print))))
      where
        plan_two : Checked Deed
        plan_two = two_plan b (world e) e.state.core.taken l.input row

        others : Checked Deed
        others =
            cond (eqb row.code 2) (define_plan b (world e) row)
            (cond (eqb row.code 7) (swap_plan b (world e) row)
            (cond (eqb row.code 25) (print_plan b (world e) e.state.core.written (length l.output) row) plan_two))

not_not : (t : Bool) → t ≡ not (not t)
not_not true = refl
not_not false = refl

-- the step at each kind of place: a plan carried out
abbrev pub moved : ℕ → Engine → Plan → Checked Effects
moved b e p = passed (effects b p.action (on_core (moved_to p.to) e.state))

module _ (b : ℕ) (l : Lent) (e : Engine) (h : Facts b e) where
  tests_as : (tests_plan b (world e) l.table e.state.core.place.line >>= moved b e) ≡ tests_step b l e
  unfolding tests_plan tests_step effects going_to ◌>>=◌
  tests_as =
      let row = row_at l.table e.state.core.place.line in
      need_bind _ _ _ (moved b e)
      ∙ need_same _ _ (bind_bind (satisfied b l.table (world e) row.code (rows l.table) (first_test row)) _ (moved b e))

  exit_as : (exit_plan b e.state.core.calls.count l.table e.state.core.place.line >>= moved b e) ≡ exit_step b l e
  unfolding exit_plan exit_step return effects going_to moved_to with_calls on_core ◌>>=◌
  exit_as =
      let row = row_at l.table e.state.core.place.line in
      need_bind _ _ _ (moved b e)
      ∙ need_same _ _
      (cond_bind (eqb (go_to_of row) done) _ _ (moved b e)
      ∙ rw (need_bind _ _ _ (moved b e)))

  -- the engine at the place after an operation
  abbrev after : Engine
  after =
      record {
        state = on_core (moved_to (operation_or_exit (row_at l.table e.state.core.place.row).next e.state.core.place.line)) e.state;
        storage = e.storage;
      }

  ordered_as : usable 3 b l.table e.state.core.place.row ≡ true
      → (ordered_plan b (sight l e) (row_at l.table e.state.core.place.row) >>= λ x. passed (effects b x after.state))
      ≡ (in_turn (row_at l.table e.state.core.place.row).code e >> meaning (row_at l.table e.state.core.place.row).code b (given l e))
  unfolding ordered_plan in_turn is_set_up given world on_core moved_to
  ordered_as u =
      let row = row_at l.table e.state.core.place.row in
      let d = e.state.core.setup.d in
      by_eqb (λ t. (cond t (need (eqb d 0) SecondSetUp >> set_up_plan (length e.storage) row)
      (need (not (eqb d 0)) BeforeSetUp >> plan_of b (sight l e) row) >>= λ x. passed (effects b x after.state))
      ≡ (cond t (need (not (not (eqb d 0))) SecondSetUp) (need (not (eqb d 0)) BeforeSetUp) >> meaning row.code b (given l e))) row.code 1
      (λ one.
      need_bind (eqb d 0) SecondSetUp (set_up_plan (length e.storage) row) _
      ∙ ap (λ (t : Bool). need t SecondSetUp >> (set_up_plan (length e.storage) row >>= λ x. passed (effects b x after.state))) (not_not (eqb d 0))
      ∙ need_same _ _ (set_up_first b row l after one))
      (λ other.
      let k = operates b l.table e.state.core.place.row u refl other in
      need_bind (not (eqb d 0)) BeforeSetUp (plan_of b (sight l e) row) _
      ∙ need_same _ _ (planned_as b row l after (λ a at. not_null b e h a (located b e h.core row.first a at)) k.low k.high))

  operation_as : (operation_plan b (sight l e) l.table e.state.core.place >>= moved b e) ≡ operation_step b l e
  unfolding operation_plan operation_step ◌>>=◌
  operation_as =
      let row = row_at l.table e.state.core.place.row in
      need_bind _ _ _ (moved b e)
      ∙ need_when _ _
      (λ u. bind_bind (ordered_plan b (sight l e) (row_at l.table e.state.core.place.row))
      (λ x. passed (record { to = operation_or_exit row.next e.state.core.place.line; action = x })) (moved b e)
      ∙ ordered_as u)

  pub plan_as : length_fits l.table ≡ true → (step_plan b (sight l e) l.table e.state.core.place >>= moved b e) ≡ plan b l e
  unfolding step_plan plan
  plan_as fits =
      let kind = e.state.core.place.kind in
      cond_bind (eqb kind 0) _ _ (moved b e)
      ∙ rw (tests_as, cond_bind (eqb kind 1) _ _ (moved b e), operation_as, exit_as) (sym (need_yes (length_fits l.table) TableLength _ fits))

  -- by what a plan comes to
  pub plan_passed : length_fits l.table ≡ true → {p : Plan} → step_plan b (sight l e) l.table e.state.core.place ≡ passed p
      → plan b l e ≡ passed (effects b p.action (on_core (moved_to p.to) e.state))
  plan_passed fits k = sym (plan_as fits) ∙ bind_yes _ (moved b e) k

  pub plan_refused : length_fits l.table ≡ true → {r : Refusal} → step_plan b (sight l e) l.table e.state.core.place ≡ refused r
      → plan b l e ≡ refused r
  plan_refused fits k = sym (plan_as fits) ∙ bind_no _ (moved b e) k
