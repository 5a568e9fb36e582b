-- What the plan of a step comes to, where it is not refused: a set-up, or moves of blocks and stores as `Moves` says.
-- Assumes nothing.
use Prim.Native.Nat.{ℕ, ◌-◌, ◌≤◌}
use native.Mathlib.Omega.{arith}
use mathlib.Core.Bool.{true, false, not, ◌&&◌, cond}
use mathlib.Core.Logic.{inl, inr}
use mathlib.Core.Path.{◌≡◌, refl, subst, sym}
use borrow.Author.Tests.{ltb-true, eqb-true, eqb-false, eq-eqb, ne_eqb, not-true}
use lib.Dec.{eqb}
use Rattle.block.specs.Blocks.{size, size_at}
use Rattle.block.specs.SetUp.{top}
use Rattle.table.specs.declared.Row.{Row}
use Rattle.table.specs.Row.{length_fits, row_at, first_operation, go_to_of, done}
use Rattle.table.specs.Table.{usable}
use Rattle.machine.specs.declared.Place.{Place}
use Rattle.machine.specs.declared.Refusal.TheVariants.{BeforeSetUp, SecondSetUp}
use Rattle.machine.specs.Answer.{passed, ◌>>◌, need}
use Rattle.machine.specs.State.{no_set_up, is_set_up, is_finished, the_end, moved_to, with_calls, with_set_up, on_core, with_map, tests_of}
use Rattle.machine.specs.Sound.{Lent, Engine, is_row, is_place, sound_place}
use Rattle.machine.specs.Locate.{live_blocks}
use Rattle.machine.specs.Effects.{Effects, quietly}
use Rattle.machine.specs.Operations.{Given, Meaning, operations, operation_of, makes, meaning_of, asked, meaning, set_up}
use Rattle.machine.specs.Step.{next_line, operation_or_exit, going_to, tests_step, in_turn, given, operation_step, return, exit_step}
use Rattle.machine.specs.Step.{plan, set_up_at}
use Rattle.machine.proofs.Checks.{need_passed, then_passed, need_alone, bind_passed, passed_same}
use Rattle.machine.proofs.Facts.{CoreFacts, Facts, moved_facts, calls_facts, setup_facts, pop_facts, top_fact}
use Rattle.machine.proofs.Live.{live_size}
use Rattle.machine.proofs.Moves.{SetsUp, Done}
use Rattle.machine.proofs.Codes.{own_from, Each, end, ◌⨾◌, at_code}
use Rattle.machine.proofs.Meanings.{silent, computing_done, interchange_done, input_done, print_done, define_done}
use Rattle.machine.proofs.Meanings.{save_contents_done, restore_contents_done, save_definition_done, restore_definition_done}
use Rattle.machine.proofs.Meanings.{do_line_done}
use Rattle.machine.proofs.Blocks.{free_done, get_done, duplicate_done}
use Rattle.machine.proofs.Places.{RowOrNone, place_there, place_line, place_sound, end_sound, next_sound, operation_or_exit_lem}
use Rattle.machine.proofs.Places.{tests_place, stack_sound, next_row, do_row, has_code, line_operation, line_goes}

-- what the plan of a step comes to
pub data Planned (b : ℕ) (l : Lent) (e : Engine) (x : Effects) : Type 0 where
  setting_up : is_set_up e.state.core ≡ false → CoreFacts b x.state.core → SetsUp e.storage e.state.map (set_up_at l e) x → Planned b l e x
  moving : set_up_at l e ≡ no_set_up → Done b e x → Planned b l e x

-- an operation but the set-up
module _ (b : ℕ) (g : Given) (h : Facts b g.engine)
    (sizes : (a : ℕ) → not (eqb (size_at a (live_blocks g.engine)) 0) ≡ true
    → (j : ℕ) × (j ≤ top g.engine.state.core.setup.d) × (size_at a (live_blocks g.engine) ≡ size j))
    (p : is_place g.engine.state.core.place ≡ true)
    (q : g.row.code ≡ 36 → sound_place (tests_of g.row.first.value) ≡ true)
    (other : g.row.code ≡ 1 → ⊥) where
  -- what is asked of each meaning
  abbrev Right : ℕ → Meaning → Type 0
  Right i m = g.row.code ≡ i → (x : Effects) → m b g ≡ passed x → Done b g.engine x

  -- the operations that have a meaning of their own, in the order of their codes
  each_right : Each (λ o. Right o.code o.meaning) (own_from 1 operations)
  unfolding own_from operations makes
  each_right =
      (λ c. absurd (other c))
      ⨾ (λ c. define_done b g h)
      ⨾ (λ c. get_done b g h)
      ⨾ (λ c. free_done b g h)
      ⨾ (λ c. duplicate_done b g h sizes)
      ⨾ (λ c. interchange_done b g h)
      ⨾ (λ c. input_done b g h)
      ⨾ (λ c. print_done b g h)
      ⨾ (λ c. save_contents_done b g h)
      ⨾ (λ c. restore_contents_done b g h)
      ⨾ (λ c. save_definition_done b g h)
      ⨾ (λ c. restore_definition_done b g h)
      ⨾ (λ c. do_line_done b g h p (q c))
      ⨾ end

  idle : (i : ℕ) → Right i (λ b g. passed (quietly g.engine.state))
  unfolding quietly
  idle i c x k = subst (Done b g.engine) (passed_same k) (silent b g.engine _ h.core refl refl refl refl)

  -- the operation's own meaning
  pub meaning_done : 1 ≤ g.row.code → (x : Effects) → meaning g.row.code b g ≡ passed x → Done b g.engine x
  unfolding meaning operation_of
  meaning_done low = at_code Right (λ i f c. computing_done b g h f) _ idle 1 operations each_right (g.row.code - 1) (omega arith)

-- 1 set up
module _ (b : ℕ) (g : Given) (h : Facts b g.engine) where
  pub set_up_done : (x : Effects) → set_up b g ≡ passed x → CoreFacts b x.state.core × SetsUp g.engine.storage g.engine.state.map (asked g.row) x
  unfolding set_up with_map on_core with_set_up quietly
  set_up_done x k =
      let (fits, k₁) = need_passed _ _ _ k in
      subst (λ x. CoreFacts b x.state.core × SetsUp g.engine.storage g.engine.state.map (asked g.row) x) (passed_same k₁) (
        setup_facts b g.engine.state.core h.core (asked g.row),
        record { fits = fits; setup = refl; map = refl; report = refl; zeroed = refl },
      )

-- a step of a sound engine that is not finished
module _ (b : ℕ) (l : Lent) (e : Engine) (h : Facts b e) (t : length_fits l.table ≡ true) where
  -- going on to a sound place
  going_done : (p : Place) → sound_place p ≡ true → Done b e (going_to p e)
  unfolding going_to quietly on_core moved_to
  going_done p k = silent b e _ (moved_facts b e.state.core h.core p k) refl refl refl refl

  module _ (f : is_finished e.state.core.place ≡ false) where
    -- the line's row is one
    line : is_row e.state.core.place.line ≡ true
    line = place_line _ (place_there _ h.core.place f)

    -- at a line's tests
    tests_done : (x : Effects) → tests_step b l e ≡ passed x → Done b e x
    unfolding tests_step
    tests_done x k =
        let n = e.state.core.place.line in
        let (u, k₁) = need_passed _ _ _ k in
        let (holds, _, k₃) = bind_passed _ _ k₁ in
        let there = place_sound _ (operation_or_exit_lem _ n (line_operation b l.table n t u) line) in
        let next = next_sound _ (next_row b l.table n t 1 u) in
        subst (Done b e) (passed_same k₃)
        (going_done _ (elim holds as (λ t. sound_place (cond t (operation_or_exit (first_operation (row_at l.table n)) n)
        (next_line (row_at l.table n).next)) ≡ true)
        [ true ↦ there | false ↦ next ]))

    -- DONE
    return_done : (x : Effects) → return e ≡ passed x → Done b e x
    unfolding return quietly on_core moved_to with_calls
    return_done x k =
        let (some, k₁) = need_passed _ _ _ k in
        let c = e.state.core in
        let s = h.core.calls in
        subst (Done b e) (passed_same k₁)
        (silent b e _
        (moved_facts b (with_calls _ c)
        (calls_facts b c h.core _ (pop_facts is_place c.calls.count c.calls.entries s)) _
        (top_fact sound_place c.calls.count c.calls.entries (stack_sound _ _ s) (ltb-true _ _ some) the_end end_sound))
        refl refl refl refl)

    -- at a line's exit
    exit_done : (x : Effects) → exit_step b l e ≡ passed x → Done b e x
    unfolding exit_step
    exit_done x k =
        let n = e.state.core.place.line in
        let row = row_at l.table n in
        let (u, k₁) = need_passed _ _ _ k in
        let next = next_sound _ (next_row b l.table n t 1 u) in
        elim (eqb (go_to_of row) done) as (λ t. eqb (go_to_of row) done ≡ t → cond t (return e)
        (passed (going_to (cond (eqb (go_to_of row) 0) (next_line row.next) (tests_of (go_to_of row))) e)) ≡ passed x → Done b e x) [
          | true ↦ λ q m. return_done x m
          | false ↦ λ q m. subst (Done b e) (passed_same m) (going_done _ (to row next (line_goes b l.table n t u (eqb-false _ _ q))))
        ] refl k₁
      where
        to : (row : Row) → sound_place (next_line row.next) ≡ true → RowOrNone (go_to_of row)
            → sound_place (cond (eqb (go_to_of row) 0) (next_line row.next) (tests_of (go_to_of row))) ≡ true
        to row next (inl z) = rw (eq-eqb (go_to_of row) 0 z) next
        to row next (inr r) =
            elim (eqb (go_to_of row) 0) as (λ t. sound_place (cond t (next_line row.next) (tests_of (go_to_of row))) ≡ true)
            [ true ↦ next | false ↦ place_sound _ (tests_place _ r) ]

    -- no set-up is asked for
    not_asked : (e.state.core.place.kind ≡ 1 → (row_at l.table e.state.core.place.row).code ≡ 1 → ⊥) → set_up_at l e ≡ no_set_up
    unfolding set_up_at
    not_asked no_set_up_lem =
        elim (eqb e.state.core.place.kind 1) as (λ s. eqb e.state.core.place.kind 1 ≡ s
        → cond (s && eqb (row_at l.table e.state.core.place.row).code 1) (asked (row_at l.table e.state.core.place.row)) no_set_up ≡ no_set_up)
        [ true ↦ λ p. rw (ne_eqb _ 1 (no_set_up_lem (eqb-true _ _ p))) | false ↦ λ p. refl ] refl

    module _ (kind : e.state.core.place.kind ≡ 1) (u : usable 3 b l.table e.state.core.place.row ≡ true) where
      -- the place after the operation
      after : is_place (operation_or_exit (row_at l.table e.state.core.place.row).next e.state.core.place.line) ≡ true
      after = operation_or_exit_lem _ _ (next_row b l.table e.state.core.place.row t 3 u) line

      -- what the operation is given is sound
      given_facts : Facts b (given l e).engine
      unfolding given on_core moved_to
      given_facts =
          record {
            core = moved_facts b e.state.core h.core _ (place_sound _ after);
            storage = record { numbers = h.storage.numbers; blocks = h.storage.blocks; values = h.storage.values };
          }

      is_asked : (row_at l.table e.state.core.place.row).code ≡ 1
          → set_up_at l e ≡ asked (row_at l.table e.state.core.place.row)
      unfolding set_up_at
      is_asked c = rw (eq-eqb _ 1 kind, eq-eqb _ 1 c)

      -- a set-up, and any other operation
      set_up_planned : (row_at l.table e.state.core.place.row).code ≡ 1 → is_set_up e.state.core ≡ false
          → (x : Effects) → meaning 1 b (given l e) ≡ passed x → Planned b l e x
      unfolding meaning meaning_of operation_of operations given on_core
      set_up_planned c s x k =
          let (core, up) = set_up_done b (given l e) given_facts x k in
          setting_up s core (subst (λ u. SetsUp e.storage e.state.map u x) (sym (is_asked c)) up)

      other_planned : ((row_at l.table e.state.core.place.row).code ≡ 1 → ⊥)
          → (x : Effects) → meaning (row_at l.table e.state.core.place.row).code b (given l e) ≡ passed x → Planned b l e x
      unfolding given on_core moved_to
      other_planned c x k =
          moving (not_asked (λ p. c))
          (meaning_done b (given l e) given_facts (live_size b e.state e.storage h.storage) after
          (do_row b l.table e.state.core.place.row t u) c
          (has_code b l.table e.state.core.place.row t u) x k)

    -- an operation
    operation_done : e.state.core.place.kind ≡ 1
        → (x : Effects) → operation_step b l e ≡ passed x → Planned b l e x
    unfolding operation_step in_turn
    operation_done kind x k =
        let code = (row_at l.table e.state.core.place.row).code in
        let (u, k₁) = need_passed _ _ _ k in
        elim (eqb code 1) as (λ s. eqb code 1 ≡ s
        → (cond s (need (not (is_set_up e.state.core)) SecondSetUp) (need (is_set_up e.state.core) BeforeSetUp)
        >> meaning code b (given l e)) ≡ passed x → Planned b l e x) [
          | true ↦ λ c m.
              let (_, m₁, m₂) = then_passed _ _ m in
              set_up_planned kind u (eqb-true code 1 c) (not-true _ (need_alone _ _ m₁)) x (rw (eqb-true code 1 c) at m₂)
          | false ↦ λ c m.
              let (_, _, m₂) = then_passed _ _ m in
              other_planned kind u (eqb-false code 1 c) x m₂
        ] refl k₁

-- the plan of a step of a sound engine that is not finished
pub planned : (b : ℕ) (l : Lent) (e : Engine) → Facts b e
    → is_finished e.state.core.place ≡ false → (x : Effects) → plan b l e ≡ passed x → Planned b l e x
unfolding plan
planned b l e h f x k =
    let kind = e.state.core.place.kind in
    let (t, k₁) = need_passed _ _ _ k in
    elim (eqb kind 0) as (λ s. eqb kind 0 ≡ s → cond s (tests_step b l e) (cond (eqb kind 1) (operation_step b l e) (exit_step b l e)) ≡ passed x
    → Planned b l e x) [
      | true ↦ λ p m. moving (not_asked b l e h t f (λ q. absurd (omega (arith, eqb-true kind 0 p)))) (tests_done b l e h t f x m)
      | false ↦ λ p m.
          elim (eqb kind 1) as (λ s. eqb kind 1 ≡ s → cond s (operation_step b l e) (exit_step b l e) ≡ passed x → Planned b l e x) [
            | true ↦ λ q n. operation_done b l e h t f (eqb-true kind 1 q) x n
            | false ↦ λ q n. moving (not_asked b l e h t f (λ r. absurd (eqb-false kind 1 q r))) (exit_done b l e h t f x n)
          ] refl m
    ] refl k₁
