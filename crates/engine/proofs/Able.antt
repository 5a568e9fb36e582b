-- An action that was planned for a sound engine can be carried out, and none of its stores goes to a field at address zero.
-- Assumes nothing.
use Rattle.std.specs.Prelude.{◌≡◌, ℕ, ◌+◌, ◌-◌, ◌<◌, ◌≤◌, true, cond, not, eqb, ltb, ◌⊎◌, length, get_or}
use native.Mathlib.Omega.{arith}
use mathlib.Core.List.{Memᴰ}
use mathlib.Core.Path.{refl, sym, subst}
use borrow.Author.Tests.{ltb-true, leb-true}
use Rattle.machine.proofs.Places.{rows_few}
use Rattle.word.proofs.Tests.{by_leb, by_eqb}
use Rattle.block.specs.declared.SetUp.{SetUp}
use Rattle.block.specs.Blocks.{size, level, size_at}
use Rattle.block.specs.SetUp.{top, fitting, runs}
use Rattle.block.proofs.Size.{size_pos, level_le, fitting_facts}
use Rattle.block.proofs.Tiling.{size_at_mem}
use Rattle.block.proofs.Runs.{runs_sound, outside_mem}
use Rattle.table.specs.declared.Pair.{Pair}
use Rattle.table.specs.declared.Row.{Row}
use Rattle.table.specs.Reference.{is_reference}
use Rattle.table.specs.Row.{length_fits, row_at, go_to_of, done}
use Rattle.table.specs.Table.{usable}
use Rattle.machine.specs.declared.Location.{Location}
use Rattle.machine.specs.declared.Location.TheVariants.{Bug, Field}
use Rattle.machine.specs.declared.Refusal.TheVariants.{SecondSetUp, BeforeSetUp, StackFull, StackEmpty}
use Rattle.machine.specs.Answer.{Checked, refused, passed, ◌>>=◌, ◌>>◌, need}
use Rattle.machine.specs.State.{tests_of, the_end}
use Rattle.machine.specs.Sound.{Lent, Engine, sound}
use Rattle.machine.specs.Locate.{World, Value, world, live_blocks, contents, read, locate}
use Rattle.machine.specs.Operations.{asked, lowest_run}
use Rattle.machine.specs.Step.{next_line}
use Rattle.machine.proofs.Checks.{nonzero, need_passed, bind_passed, passed_same}
use Rattle.machine.proofs.Facts.{Facts}
use Rattle.machine.proofs.Located.{located}
use Rattle.machine.proofs.Live.{live_lies, live_size}
use Rattle.machine.proofs.Keeps.{run_fits}
use Rattle.machine.proofs.Blocks.{one_of_runs}
use Rattle.machine.proofs.Steps.{sound_engine_lem}
use Rattle.operands.specs.Through.{Delivered}
use Rattle.operands.specs.Reading.{Readable, Reached, Taken}
use Rattle.operands.specs.Storing.{bugs_stored}
use Rattle.operands.specs.Through.{through, Deliverable}
use Rattle.operands.proofs.Readable.{locate_reached}
use Rattle.operands.proofs.Operands.{operand_small}
use Rattle.operands.proofs.Through.{through_readable, through_reached}
use Rattle.operations.proofs.Doing.{stored_readable}
use Rattle.operations.specs.Deeds.{Deed}
use Rattle.operations.specs.Deeds.{Nothing, Deliver, DeliverTwo, Save, Restore, SaveDefinition}
use Rattle.operations.specs.Deeds.{RestoreDefinition, Call, Return}
use Rattle.operations.specs.Seen.{sight, Ready, counts_of}
use Rattle.operations.specs.Plans.{set_up_plan, defining, define_plan, size_of, after_delivery, delivering, getting, freeing}
use Rattle.operations.specs.Plans.{duplicating, taking, value_by, storing, acting, two_plan, swap_plan, printing, print_plan}
use Rattle.operations.specs.Plans.{contents_plan, record_plan, stack_plan, plan_of, name_of}
use Rattle.operations.specs.Rows.{Two, Three, Operates}
use Rattle.plans.specs.Answers.{Plan}
use Rattle.plans.specs.Steps.{going_to, tests_plan, ordered_plan, operation_plan, exit_plan, step_plan}
use Rattle.plans.proofs.Ready.{ready_is}
use Rattle.plans.proofs.Shapes.{operates, called_row}
use Rattle.plans.proofs.Stores.{not_null}
use Rattle.commit.specs.Feasible.{Ground, Run, Copy, ReachedIn, Feasible}
use Rattle.operands.proofs.Reported.{NotNull}
use Rattle.commit.proofs.Engines.{Sure}

-- what an engine's actions are carried out on
abbrev pub ground : Lent → Engine → Ground
ground l e =
    record {
      setup = e.state.core.setup;
      map = e.state.map;
      storage = e.storage;
      counts = counts_of e.state.core;
      given = length l.input;
      room = length l.output;
    }

-- what carrying an action out asks for
pub record Able (b : ℕ) (l : Lent) (e : Engine) (x : Deed) : Type 0 where
  pub feasible : Feasible b (ground l e) x
  pub sure : Sure x

module _ (b : ℕ) (l : Lent) (e : Engine) (h : Facts b e) (ready : Ready b (sight l e)) where
  abbrev u : SetUp
  u = e.state.core.setup

  abbrev g : Ground
  g = ground l e

  able_is : {x y : Deed} → ◌≡◌ {A = Checked Deed} (passed x) (passed y) → Able b l e x → Able b l e y
  able_is same k = subst (Able b l e) (passed_same same) k

  -- where a reference leads
  record Found (at : Location) : Type 0 where
    reached : ReachedIn b g at
    sure : NotNull at

  found : (p : Pair) → is_reference p.value ≡ true → (at : Location) → locate b (world e) p ≡ passed at → Found at
  unfolding world
  found p is at k =
      record { reached = locate_reached b (world e) ready.readable p is at k; sure = not_null b e h at (located b e h.core p at k) }

  -- a step that goes to a place and nothing else
  nothing_able : Able b l e Nothing
  unfolding Feasible Sure
  nothing_able = record { feasible = tt; sure = tt }

  -- 1 set up
  set_up_able : 4096 ≤ length e.state.map → (row : Row) (x : Deed) → set_up_plan (length e.storage) row ≡ passed x → Able b l e x
  unfolding set_up_plan Feasible Sure
  set_up_able long row x k =
      let (fits, k₁) = need_passed _ _ _ k in
      let few = (fitting_facts (length e.storage) (asked row) fits).few in
      able_is k₁ (record { feasible = (fits, omega arith); sure = tt })

  -- 2 define
  define_able : (row : Row) → Three b row → (x : Deed) → define_plan b (world e) row ≡ passed x → Able b l e x
  unfolding define_plan defining Feasible Sure
  define_able row t x k =
      let (_, _, k₁) = bind_passed _ _ k in
      let (_, _, k₂) = bind_passed _ _ k₁ in
      let (_, _, k₃) = bind_passed _ _ k₂ in
      let (_, k₄) = need_passed _ _ _ k₃ in
      able_is k₄ (record { feasible = t.name; sure = tt })

  -- 7 interchange
  swap_able : (row : Row) → is_reference row.first.value ≡ true → is_reference row.second.value ≡ true → (x : Deed)
      → swap_plan b (world e) row ≡ passed x → Able b l e x
  unfolding swap_plan Feasible Sure
  swap_able row is₁ is₂ x k =
      let (a, at, k₁) = bind_passed _ _ k in
      let (c, ct, k₂) = bind_passed _ _ k₁ in
      let fa = found row.first is₁ a at in
      let fc = found row.second is₂ c ct in
      able_is k₂ (record { feasible = (fa.reached, fc.reached); sure = (fa.sure, fc.sure) })

  -- 25 print
  print_able : (row : Row) → Taken b row.second → (x : Deed) → print_plan b (world e) e.state.core.written (length l.output) row
      ≡ passed x → Able b l e x
  unfolding print_plan printing Feasible Sure
  print_able row t x k =
      let (n, _, k₁) = bind_passed _ _ k in
      let (v, is, k₂) = bind_passed _ _ k₁ in
      let (_, k₃) = need_passed _ _ _ k₂ in
      let (fits, k₄) = need_passed _ _ _ k₃ in
      let narrow = ready.readable.width in
      let wide = (operand_small b (world e) ready.readable row.second t v is).1 in
      able_is k₄ (record { feasible = (omega arith, leb-true _ _ fits); sure = tt })

  -- 32 save contents, 33 restore contents
  contents_able : (row : Row) → is_reference row.first.value ≡ true → (x : Deed)
      → contents_plan b (world e) e.state.core.contents.count e.state.core.contents.entries row ≡ passed x → Able b l e x
  unfolding contents_plan Feasible Sure
  contents_able row is x k =
      let (a, at, k₁) = bind_passed _ _ k in
      let fa = found row.first is a at in
      let count = e.state.core.contents.count in
      by_eqb (λ t. cond t (need (ltb count 128) StackFull >> passed (Save (contents b (world e) a)))
      (need (ltb 0 count) StackEmpty >> passed (Restore a (get_or e.state.core.contents.entries (count - 1) 0))) ≡ passed x → Able b l e x) row.code 32
      (λ _ j. let (room, j₁) = need_passed _ _ _ j in able_is j₁ (record { feasible = ltb-true _ _ room; sure = tt }))
      (λ _ j.
      let (some, j₁) = need_passed _ _ _ j in
      able_is j₁ (record { feasible = (fa.reached, ltb-true _ _ some, h.core.contents.few); sure = fa.sure }))
      k₁

  -- 34 save a definition, 35 restore it, 36 DO
  record_able : (row : Row) → row.name < 36 → ((row.code ≡ 34 → ⊥) → (row.code ≡ 35 → ⊥) → row.first.value < 65536) → (x : Deed)
      → record_plan e.state.core.saved.count e.state.core.calls.count row ≡ passed x → Able b l e x
  unfolding record_plan Feasible Sure
  record_able row named few x k =
      let saved = e.state.core.saved.count in
      let calls = e.state.core.calls.count in
      by_eqb (λ t. cond t (need (ltb saved 128) StackFull >> passed (SaveDefinition (name_of row)))
      (cond (eqb row.code 35) (need (ltb 0 saved) StackEmpty >> passed (RestoreDefinition (name_of row)))
      (need (ltb calls 128) StackFull >> passed (Call row.first.value))) ≡ passed x → Able b l e x) row.code 34
      (λ _ j. let (room, j₁) = need_passed _ _ _ j in able_is j₁ (record { feasible = (named, ltb-true _ _ room); sure = tt }))
      (λ no j. by_eqb (λ t. cond t (need (ltb 0 saved) StackEmpty >> passed (RestoreDefinition (name_of row)))
      (need (ltb calls 128) StackFull >> passed (Call row.first.value)) ≡ passed x → Able b l e x) row.code 35
      (λ _ i. let (some, i₁) = need_passed _ _ _ i in able_is i₁ (record { feasible = (named, ltb-true _ _ some, h.core.saved.few); sure = tt }))
      (λ nor i. let (room, i₁) = need_passed _ _ _ i in able_is i₁ (record { feasible = (few no nor, ltb-true _ _ room); sure = tt }))
      j)
      k

  -- a run that is found
  module _ (address n j : ℕ) (low : j ≤ top u.d) (is_size : n ≡ size j) (k : lowest_run u e.state.map n ≡ passed address) where
    run_there : Memᴰ address (runs n u (live_blocks e))
    unfolding lowest_run
    run_there = one_of_runs _ address k

    run_some : 0 < n
    run_some = rw is_size (size_pos j)

    set_up_fits : fitting (length e.storage) u ≡ true
    set_up_fits = run_fits (length e.storage) u (live_blocks e) n address run_some h.storage.numbers run_there

    run_able : Run g address n
    run_able = record { fits = set_up_fits; place = j; low = low; is_size = is_size; is_lowest = k }

    -- a live block that is copied
    copy_able : (from : ℕ) → n ≡ size_at from (live_blocks e) → Copy g address n from
    copy_able from same =
        let is_one = size_at_mem from (live_blocks e) (λ z. absurd (let some = run_some in omega arith)) in
        let lies = live_lies b e.state e.storage h.storage _ is_one in
        let (_, _, clear, _) = runs_sound n u (live_blocks e) run_some run_there in
        record {
          low = lies.first;
          high = rw same lies.last;
          clear = subst (λ (m : ℕ). (from + m ≤ address) ⊎ (address + n ≤ from)) (sym same) (outside_mem address n (live_blocks e) clear is_one);
        }

    -- a location that is reached once the run is delivered
    module _ (a : Location) (fa : Found a) where
      abbrev seen_so : World
      seen_so =
          record {
            bugs = bugs_stored b a address e.state.core.bugs;
            definitions = e.state.core.definitions;
            setup = u;
            map = e.state.map;
            storage = e.storage;
          }

      readable_so : Readable b seen_so
      unfolding world
      readable_so = stored_readable b (world e) a address ready.readable refl

      abbrev ahead : Delivered
      ahead = record { address = address; size = n; at = a }

      ahead_so : Deliverable b seen_so address n a
      ahead_so = record { fits = set_up_fits; place = j; low = low; is_size = is_size; is_run = run_there; reached = fa.reached }

      reached_sure : (at : Location) → ReachedIn b g at → NotNull at
      unfolding Reached NotNull
      reached_sure (Bug x) r = tt
      reached_sure (Field word left right) r = let first = (fitting_facts (length e.storage) u set_up_fits).first in omega (arith, r.1)

      found_after : (p : Pair) → is_reference p.value ≡ true → (at : Location) → locate b (after_delivery b address n a (world e)) p ≡ passed at → Found at
      unfolding after_delivery world through
      found_after p is at k =
          let r = through_reached b seen_so readable_so ahead ahead_so at
          (locate_reached b _ (through_readable b seen_so readable_so ahead ahead_so) p is at k) in
          record { reached = r; sure = reached_sure at r }

      -- 3 get
      delivering_able : (p : Pair) → ((p.form ≡ 0 → ⊥) → is_reference p.value ≡ true) → (x : Deed)
          → delivering b (world e) p a address n ≡ passed x → Able b l e x
      unfolding delivering Feasible Sure
      delivering_able p is x k =
          by_eqb (λ t. cond t (passed (Deliver address n 0 a))
          (locate b (after_delivery b address n a (world e)) p >>= λ a2. passed (DeliverTwo address n a a2 (contents b (world e) a))) ≡ passed x
          → Able b l e x) p.form 0
          (λ none j. able_is j (record { feasible = (run_able, (λ some. absurd (some refl)), fa.reached); sure = fa.sure }))
          (λ there j.
          let (a2, at, j₁) = bind_passed _ _ j in
          let fc = found_after p (is there) a2 at in
          able_is j₁ (record { feasible = (run_able, fa.reached, fc.reached); sure = (fa.sure, fc.sure) }))
          k

  module _ (row : Row) (t : Two b row) (a : Location) (at : locate b (world e) row.first ≡ passed a) (v : Value) (x : Deed) where
    get_able : getting b (world e) row.third a v.value ≡ passed x → Able b l e x
    unfolding getting world
    get_able k =
        let (_, k₁) = need_passed _ _ _ k in
        let (address, found_run, k₂) = bind_passed _ _ k₁ in
        delivering_able address _ (level (top u.d) v.value) (level_le _ _) refl found_run a (found row.first t.a a at) row.third t.a2 x k₂

    -- 4 free
    free_able : freeing (contents b (world e) a) (size_of (world e) (contents b (world e) a)) a v.value ≡ passed x → Able b l e x
    unfolding freeing world Feasible Sure
    free_able k =
        let (live, k₁) = need_passed _ _ _ k in
        let (_, k₂) = need_passed _ _ _ k₁ in
        let fa = found row.first t.a a at in
        able_is k₂ (record { feasible = (fa.reached, nonzero _ live); sure = fa.sure })

    -- 5 duplicate
    duplicate_able : duplicating (world e).setup (world e).map a v.value (size_of (world e) v.value) ≡ passed x → Able b l e x
    unfolding duplicating world Feasible Sure
    duplicate_able k =
        let (live, k₁) = need_passed _ _ _ k in
        let (address, found_run, k₂) = bind_passed _ _ k₁ in
        let (j, low, is_size) = live_size b e.state e.storage h.storage v.value live in
        let fa = found row.first t.a a at in
        able_is k₂
        (record {
          feasible = (run_able address _ j low is_size found_run, (λ _. copy_able address _ j low is_size found_run v.value refl), fa.reached);
          sure = fa.sure;
        })

    -- 24 input
    input_able : taking b e.state.core.taken l.input a v.value ≡ passed x → Able b l e x
    unfolding taking Feasible Sure
    input_able k =
        let (_, k₁) = need_passed _ _ _ k in
        let (fits, k₂) = need_passed _ _ _ k₁ in
        let (_, k₃) = need_passed _ _ _ k₂ in
        let fa = found row.first t.a a at in
        able_is k₃ (record { feasible = (fa.reached, leb-true _ _ fits); sure = fa.sure })

    -- the others
    stored_able : (m : Checked ℕ) → storing a m ≡ passed x → Able b l e x
    unfolding storing Feasible Sure
    stored_able (passed n) k = let fa = found row.first t.a a at in able_is k (record { feasible = fa.reached; sure = fa.sure })
    stored_able (refused r) k = let never : ◌≡◌ {A = ℕ} 0 1 = cc in absurd (omega arith)

    acting_able : acting row.code b (world e) e.state.core.taken l.input row.third a v ≡ passed x → Able b l e x
    unfolding acting
    acting_able k =
        let code = row.code in
        let w = world e in
        let five = storing a (value_by code b (read b w a) v) in
        let four = cond (eqb code 24) (taking b e.state.core.taken l.input a v.value) five in
        let three = cond (eqb code 5) (duplicating w.setup w.map a v.value (size_of w v.value)) four in
        let two = cond (eqb code 4) (freeing (contents b w a) (size_of w (contents b w a)) a v.value) three in
        by_eqb (λ t. cond t (getting b w row.third a v.value) two ≡ passed x → Able b l e x) code 3
        (λ _ j. get_able j)
        (λ _ j. by_eqb (λ t. cond t (freeing (contents b w a) (size_of w (contents b w a)) a v.value) three ≡ passed x → Able b l e x) code 4
        (λ _ i. free_able i)
        (λ _ i. by_eqb (λ t. cond t (duplicating w.setup w.map a v.value (size_of w v.value)) four ≡ passed x → Able b l e x) code 5
        (λ _ m. duplicate_able m)
        (λ _ m. by_eqb (λ t. cond t (taking b e.state.core.taken l.input a v.value) five ≡ passed x → Able b l e x) code 24
        (λ _ n. input_able n)
        (λ _ n. stored_able _ n)
        m)
        i)
        j)
        k

  two_able : (row : Row) → Two b row → (x : Deed) → two_plan b (world e) e.state.core.taken l.input row ≡ passed x → Able b l e x
  unfolding two_plan
  two_able row t x k =
      let (a, at, k₁) = bind_passed _ _ k in
      let (v, _, k₂) = bind_passed _ _ k₁ in
      acting_able row t a at v x k₂

  -- the stacks
  stack_able : (row : Row) → Operates b row → 31 < row.code → (row.code ≡ 36 → row.first.value < 65536) → (x : Deed)
      → stack_plan b (world e) (counts_of e.state.core) e.state.core.contents.entries row ≡ passed x → Able b l e x
  unfolding stack_plan
  stack_able row o low few x k =
      let stack = o.stack low in
      by_leb (λ t. cond t (record_plan e.state.core.saved.count e.state.core.calls.count row)
      (contents_plan b (world e) e.state.core.contents.count e.state.core.contents.entries row) ≡ passed x → Able b l e x) 34 row.code
      (λ above j. record_able row stack.name (λ no nor. few (let high = o.high in omega arith)) x j)
      (λ below j. contents_able row (stack.contents (omega arith)) x j)
      k

  -- an operation but the set-up
  operation_able : (row : Row) → Operates b row → (row.code ≡ 36 → row.first.value < 65536) → (x : Deed) → plan_of b (sight l e) row ≡ passed x
      → Able b l e x
  unfolding plan_of
  operation_able row o few x k =
      let code = row.code in
      let w = world e in
      let four = two_plan b w e.state.core.taken l.input row in
      let three = cond (eqb code 25) (print_plan b w e.state.core.written (length l.output) row) four in
      let two = cond (eqb code 7) (swap_plan b w row) three in
      let one = cond (eqb code 2) (define_plan b w row) two in
      by_leb (λ t. cond t (stack_plan b w (counts_of e.state.core) e.state.core.contents.entries row) one ≡ passed x → Able b l e x) 32 code
      (λ above j. stack_able row o above few x j)
      (λ below j. by_eqb (λ t. cond t (define_plan b w row) two ≡ passed x → Able b l e x) code 2
      (λ is i. define_able row (o.define is) x i)
      (λ noDefine i. by_eqb (λ t. cond t (swap_plan b w row) three ≡ passed x → Able b l e x) code 7
      (λ is m. let (first, second) = o.swap is in swap_able row first second x m)
      (λ no_interchange m. by_eqb (λ t. cond t (print_plan b w e.state.core.written (length l.output) row) four ≡ passed x → Able b l e x) code 25
      (λ is n. print_able row (o.print is).1 x n)
      (λ no_print n.
      let low = o.low in
      two_able row (o.two (record { low = omega arith; high = omega arith; no_interchange = no_interchange; no_print = no_print })) x n)
      m)
      i)
      j)
      k

  module _ (long : 4096 ≤ length e.state.map) (lengths : length_fits l.table ≡ true) where
    ordered_able : (r : ℕ) → usable 3 b l.table r ≡ true → (x : Deed) → ordered_plan b (sight l e) (row_at l.table r) ≡ passed x → Able b l e x
    unfolding ordered_plan world
    ordered_able r used x k =
        let row = row_at l.table r in
        by_eqb (λ t. cond t (need (eqb u.d 0) SecondSetUp >> set_up_plan (length e.storage) row)
        (need (not (eqb u.d 0)) BeforeSetUp >> plan_of b (sight l e) row) ≡ passed x → Able b l e x) row.code 1
        (λ _ j. set_up_able long row x (need_passed _ _ _ j).1)
        (λ other j.
        operation_able row (operates b l.table r used refl other)
        (λ is. let high = (called_row b l.table r used is).1 in let few = rows_few l.table lengths in omega arith) x (need_passed _ _ _ j).1)
        k

    module _ (p : Plan) where
      abbrev AbleTo : Plan → Type 0
      AbleTo q = Able b l e q.action

      tests_able : (line : ℕ) → tests_plan b (world e) l.table line ≡ passed p → AbleTo p
      unfolding tests_plan
      tests_able line k =
          let (_, k₁) = need_passed _ _ _ k in
          let (_, _, k₂) = bind_passed _ _ k₁ in
          subst AbleTo (passed_same k₂) nothing_able

      exit_able : (line : ℕ) → exit_plan b e.state.core.calls.count l.table line ≡ passed p → AbleTo p
      unfolding exit_plan Feasible Sure
      exit_able line k =
          let (_, k₁) = need_passed _ _ _ k in
          let row = row_at l.table line in
          by_eqb (λ t. cond t (need (ltb 0 e.state.core.calls.count) StackEmpty >> passed (record { to = the_end; action = Return }))
          (passed (going_to (cond (eqb (go_to_of row) 0) (next_line row.next) (tests_of (go_to_of row))))) ≡ passed p → AbleTo p) (go_to_of row) done
          (λ _ j.
          let (some, j₁) = need_passed _ _ _ j in
          subst AbleTo (passed_same j₁) (record { feasible = (ltb-true _ _ some, h.core.calls.few); sure = tt }))
          (λ _ j. subst AbleTo (passed_same j) nothing_able)
          k₁

      at_operation_able : operation_plan b (sight l e) l.table e.state.core.place ≡ passed p → AbleTo p
      unfolding operation_plan
      at_operation_able k =
          let (used, k₁) = need_passed _ _ _ k in
          let (x, k₂, k₃) = bind_passed _ _ k₁ in
          subst AbleTo (passed_same k₃) (ordered_able e.state.core.place.row used x k₂)

      step_able : step_plan b (sight l e) l.table e.state.core.place ≡ passed p → AbleTo p
      unfolding step_plan
      step_able k =
          let place = e.state.core.place in
          let others = cond (eqb place.kind 1) (operation_plan b (sight l e) l.table place) (exit_plan b e.state.core.calls.count l.table
          place.line) in
          by_eqb (λ t. cond t (tests_plan b (world e) l.table place.line) others ≡ passed p → AbleTo p) place.kind 0
          (λ _ j. tests_able place.line j)
          (λ _ j. by_eqb (λ t. cond t (operation_plan b (sight l e) l.table place)
          (exit_plan b e.state.core.calls.count l.table place.line) ≡ passed p → AbleTo p) place.kind 1
          (λ _ i. at_operation_able i)
          (λ _ i. exit_able place.line i)
          j)
          k

-- a step that is planned for a sound engine
pub plan_able : (b : ℕ) (l : Lent) (e : Engine) → sound b l e ≡ true → b ≤ 48 → length_fits l.table ≡ true → 4096 ≤ length e.state.map
    → (p : Plan) → step_plan b (sight l e) l.table e.state.core.place ≡ passed p → Able b l e p.action
plan_able b l e s narrow lengths long p k = step_able b l e (sound_engine_lem b l e s) (ready_is b l e s narrow) long lengths p k
