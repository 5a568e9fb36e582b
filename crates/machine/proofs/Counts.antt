-- A step keeps the counts of what is taken and written inside the input and the output, and the output as long as it was.
-- Assumes nothing.
use Prim.Native.Nat.{ℕ, ◌+◌, ◌-◌, ◌≤◌}
use native.Mathlib.Omega.{arith}
use mathlib.Core.Bool.{true, false, cond}
use mathlib.Core.List.{List, []}
use mathlib.Core.Path.{◌≡◌, refl, subst, sym, ◌∙◌}
use borrow.Author.Tests.{leb-true}
use lib.Dec.{eqb}
use lib.ListN.{length}
use Rattle.character.proofs.Digits.{length_printed}
use Rattle.table.specs.Row.{row_at, go_to_of, done}
use Rattle.machine.specs.declared.Core.{Core}
use Rattle.machine.specs.declared.Place.{Place}
use Rattle.machine.specs.declared.Location.{Location}
use Rattle.machine.specs.declared.Location.TheVariants.{Bug, Field}
use Rattle.machine.specs.Answer.{Checked, passed, ◌>>=◌}
use Rattle.machine.specs.State.{with_bug, with_taken, with_written, with_contents, with_definition, with_saved, with_calls}
use Rattle.machine.specs.State.{with_set_up, moved_to, on_core, with_map, tests_of}
use Rattle.machine.specs.Sound.{Lent, Engine}
use Rattle.machine.specs.Locate.{world, Value, locate, contents}
use Rattle.machine.specs.Effects.{Effects, quietly, reporting, assigned, storing, engine_after}
use Rattle.machine.specs.Operations.{Given, Meaning, operations, operation_of, makes, Wanted, set_up, computing, interchange}
use Rattle.machine.specs.Operations.{and_storing, delivering, get, free, duplicate, input, print, define, save_contents}
use Rattle.machine.specs.Operations.{restore_contents, save_definition, restore_definition, do_line, meaning}
use Rattle.machine.specs.Step.{next_line, going_to, tests_step, given, operation_step, return, exit_step, plan}
use Rattle.machine.proofs.Checks.{need_passed, then_passed, bind_passed, passed_same}
use Rattle.machine.proofs.Codes.{own_from, Each, end, ◌⨾◌, at_code}

-- the counts after the effects, with this input and output lent
pub record Counted (l : Lent) (before : ℕ) (x : Effects) : Type 0 where
  pub taken : x.state.core.taken ≤ length l.input
  pub written : x.state.core.written ≤ length l.output
  pub room : before + length x.printed ≤ length l.output

-- a store leaves the counts
assigned_taken : (b : ℕ) (at : Location) (v : ℕ) (c : Core) → (assigned b at v c).taken ≡ c.taken
unfolding assigned with_bug
assigned_taken b (Bug x) v c = refl
assigned_taken b (Field address left right) v c = refl

assigned_written : (b : ℕ) (at : Location) (v : ℕ) (c : Core) → (assigned b at v c).written ≡ c.written
unfolding assigned with_bug
assigned_written b (Bug x) v c = refl
assigned_written b (Field address left right) v c = refl

module _ (b : ℕ) (g : Given) (t : g.engine.state.core.taken ≤ length g.lent.input)
    (w : g.engine.state.core.written ≤ length g.lent.output) where
  abbrev c : Core
  c = g.engine.state.core

  abbrev Right : Effects → Type 0
  Right = Counted g.lent c.written

  -- counts as before, and nothing printed
  as_before : (x : Effects) → x.state.core.taken ≡ c.taken → x.state.core.written ≡ c.written → x.printed ≡ [] → Right x
  as_before x e f p =
      record { taken = rw e t; written = rw f w; room = subst (λ (xs : List ℕ). c.written + length xs ≤ length g.lent.output) (sym p) (omega arith) }

  -- one store
  stored : (a : Location) (v : ℕ) → Right (storing b a v g.engine.state)
  unfolding storing reporting on_core
  stored a v = as_before _ (assigned_taken b a v c) (assigned_written b a v c) refl

  computing_counts : (f : ℕ → Value → Value → Checked ℕ) (x : Effects) → computing f b g ≡ passed x → Right x
  unfolding computing
  computing_counts f x k =
      let (a, _, k₂) = bind_passed _ _ k in
      let (_, _, k₄) = bind_passed _ _ k₂ in
      let (v, _, k₆) = bind_passed _ _ k₄ in
      subst Right (passed_same k₆) (stored a v)

  -- a state changed in parts that are no counts
  quiet : (f : Core → Core) → (f c).taken ≡ c.taken → (f c).written ≡ c.written → Right (quietly (on_core f g.engine.state))
  unfolding quietly on_core
  quiet f e h = as_before _ e h refl

  interchange_counts : (x : Effects) → interchange b g ≡ passed x → Right x
  unfolding interchange and_storing storing reporting on_core
  interchange_counts x k =
      let (a1, _, k₂) = bind_passed _ _ k in
      let (a2, _, k₄) = bind_passed _ _ k₂ in
      subst Right (passed_same k₄)
      (as_before _ (assigned_taken b a2 _ _ ∙ assigned_taken b a1 _ c) (assigned_written b a2 _ _ ∙ assigned_written b a1 _ c) refl)

  define_counts : (x : Effects) → define b g ≡ passed x → Right x
  unfolding define with_definition
  define_counts x k =
      let (_, _, k₂) = bind_passed _ _ k in
      let (_, _, k₄) = bind_passed _ _ k₂ in
      let (_, _, k₆) = bind_passed _ _ k₄ in
      let (_, k₇) = need_passed _ _ _ k₆ in
      subst Right (passed_same k₇) (quiet _ refl refl)

  save_contents_counts : (x : Effects) → save_contents b g ≡ passed x → Right x
  unfolding save_contents with_contents
  save_contents_counts x k =
      let (_, _, k₂) = bind_passed _ _ k in
      let (_, k₃) = need_passed _ _ _ k₂ in
      subst Right (passed_same k₃) (quiet _ refl refl)

  restore_contents_counts : (x : Effects) → restore_contents b g ≡ passed x → Right x
  unfolding restore_contents storing reporting on_core with_contents
  restore_contents_counts x k =
      let (a, _, k₂) = bind_passed _ _ k in
      let (_, k₃) = need_passed _ _ _ k₂ in
      subst Right (passed_same k₃) (as_before _ (assigned_taken b a _ _) (assigned_written b a _ _) refl)

  save_definition_counts : (x : Effects) → save_definition b g ≡ passed x → Right x
  unfolding save_definition with_saved
  save_definition_counts x k = let (_, k₃) = need_passed _ _ _ k in subst Right (passed_same k₃) (quiet _ refl refl)

  restore_definition_counts : (x : Effects) → restore_definition b g ≡ passed x → Right x
  unfolding restore_definition with_saved with_definition
  restore_definition_counts x k = let (_, k₃) = need_passed _ _ _ k in subst Right (passed_same k₃) (quiet _ refl refl)

  do_line_counts : (x : Effects) → do_line b g ≡ passed x → Right x
  unfolding do_line with_calls moved_to
  do_line_counts x k = let (_, k₃) = need_passed _ _ _ k in subst Right (passed_same k₃) (quiet _ refl refl)

  set_up_counts : (x : Effects) → set_up b g ≡ passed x → Right x
  unfolding set_up with_map on_core with_set_up quietly
  set_up_counts x k = let (_, k₃) = need_passed _ _ _ k in subst Right (passed_same k₃) (as_before _ refl refl refl)

  free_counts : (x : Effects) → free b g ≡ passed x → Right x
  unfolding free reporting with_map on_core
  free_counts x k =
      let (a, _, k₂) = bind_passed _ _ k in
      let (_, _, k₄) = bind_passed _ _ k₂ in
      let (_, k₅) = need_passed _ _ _ k₄ in
      let (_, k₆) = need_passed _ _ _ k₅ in
      subst Right (passed_same k₆) (as_before _ (assigned_taken b a _ c) (assigned_written b a _ c) refl)

  delivering_counts : (want : Wanted) (address : ℕ) → Right (delivering b want address g.engine.state)
  unfolding delivering reporting with_map on_core
  delivering_counts want address = as_before _ (assigned_taken b want.a address c) (assigned_written b want.a address c) refl

  twice_counts : (want : Wanted) (address : ℕ) (a2 : Location) (v : ℕ) → Right (and_storing b a2 v (delivering b want address g.engine.state))
  unfolding and_storing delivering reporting with_map on_core
  twice_counts want address a2 v =
      as_before _ (assigned_taken b a2 v _ ∙ assigned_taken b want.a address c) (assigned_written b a2 v _ ∙ assigned_written b want.a address c) refl

  get_counts : (x : Effects) → get b g ≡ passed x → Right x
  unfolding get
  get_counts x k =
      let (want, _, k₂) = bind_passed _ _ k in
      let (address, _, k₄) = bind_passed _ _ k₂ in
      elim (eqb g.row.third.form 0) as (λ t. cond t (passed (delivering b want address g.engine.state))
      (locate b (world (engine_after b (delivering b want address g.engine.state) g.engine)) g.row.third
      >>= λ a2. passed (and_storing b a2 (contents b (world g.engine) want.a) (delivering b want address g.engine.state))) ≡ passed x → Right x) [
        | true ↦ λ m. subst Right (passed_same m) (delivering_counts want address)
        | false ↦ λ m. let (a2, _, m₂) = bind_passed _ _ m in subst Right (passed_same m₂) (twice_counts want address a2 _)
      ] k₄

  duplicate_counts : (x : Effects) → duplicate b g ≡ passed x → Right x
  unfolding duplicate
  duplicate_counts x k =
      let (want, _, k₂) = bind_passed _ _ k in
      let (address, _, k₄) = bind_passed _ _ k₂ in
      subst Right (passed_same k₄) (delivering_counts want address)

  -- what is taken was there, and what is written had room
  input_counts : (x : Effects) → input b g ≡ passed x → Right x
  unfolding input storing reporting on_core with_taken
  input_counts x k =
      let (a, _, k₂) = bind_passed _ _ k in
      let (n, _, k₄) = bind_passed _ _ k₂ in
      let (_, k₅) = need_passed _ _ _ k₄ in
      let (there, k₆) = need_passed _ _ _ k₅ in
      let (_, k₇) = need_passed _ _ _ k₆ in
      subst Right (passed_same k₇)
      (record { taken = rw assigned_taken (leb-true _ _ there); written = rw assigned_written w; room = omega arith })

  print_counts : (x : Effects) → print b g ≡ passed x → Right x
  unfolding print on_core with_written quietly
  print_counts x k =
      let (n, _, k₂) = bind_passed _ _ k in
      let (y, _, k₄) = bind_passed _ _ k₂ in
      let (_, k₅) = need_passed _ _ _ k₄ in
      let (there, k₆) = need_passed _ _ _ k₅ in
      subst Right (passed_same k₆)
      (record { taken = t; written = leb-true _ _ there; room = rw length_printed (leb-true _ _ there) })

  -- the operations that have a meaning of their own, in the order of their codes
  abbrev Has : ℕ → Meaning → Type 0
  Has i m = (x : Effects) → m b g ≡ passed x → Right x

  each_counts : Each (λ o. Has o.code o.meaning) (own_from 1 operations)
  unfolding own_from operations makes
  each_counts =
      set_up_counts
      ⨾ define_counts
      ⨾ get_counts
      ⨾ free_counts
      ⨾ duplicate_counts
      ⨾ interchange_counts
      ⨾ input_counts
      ⨾ print_counts
      ⨾ save_contents_counts
      ⨾ restore_contents_counts
      ⨾ save_definition_counts
      ⨾ restore_definition_counts
      ⨾ do_line_counts
      ⨾ end

  idle : (x : Effects) → passed (quietly g.engine.state) ≡ passed x → Right x
  unfolding quietly
  idle x k = subst Right (passed_same k) (as_before _ refl refl refl)

  pub meaning_counts : (code : ℕ) (x : Effects) → meaning code b g ≡ passed x → Right x
  unfolding meaning operation_of
  meaning_counts code = at_code Has (λ i. computing_counts) _ (λ i. idle) 1 operations each_counts (code - 1)

-- a step of any place
module _ (b : ℕ) (l : Lent) (e : Engine) (t : e.state.core.taken ≤ length l.input) (w : e.state.core.written ≤ length l.output) where
  abbrev After : Effects → Type 0
  After = Counted l e.state.core.written

  -- what the operation is given has the same counts
  moved_before : (x : Effects) → x.state.core.taken ≡ e.state.core.taken → x.state.core.written ≡ e.state.core.written → x.printed ≡ [] → After x
  unfolding given on_core moved_to
  moved_before = as_before b (given l e) t w

  going_counts : (p : Place) → After (going_to p e)
  unfolding going_to quietly on_core moved_to
  going_counts p = moved_before _ refl refl refl

  tests_counts : (x : Effects) → tests_step b l e ≡ passed x → After x
  unfolding tests_step
  tests_counts x k =
      let (_, k₁) = need_passed _ _ _ k in
      let (_, _, k₃) = bind_passed _ _ k₁ in
      subst After (passed_same k₃) (going_counts _)

  return_counts : (x : Effects) → return e ≡ passed x → After x
  unfolding return quietly on_core moved_to with_calls
  return_counts x k = let (_, k₁) = need_passed _ _ _ k in subst After (passed_same k₁) (moved_before _ refl refl refl)

  exit_counts : (x : Effects) → exit_step b l e ≡ passed x → After x
  unfolding exit_step
  exit_counts x k =
      let row = row_at l.table e.state.core.place.line in
      let (_, k₁) = need_passed _ _ _ k in
      elim (eqb (go_to_of row) done) as (λ t. cond t (return e)
      (passed (going_to (cond (eqb (go_to_of row) 0) (next_line row.next) (tests_of (go_to_of row))) e)) ≡ passed x → After x)
      [ true ↦ λ m. return_counts x m | false ↦ λ m. subst After (passed_same m) (going_counts _) ] k₁

  operation_counts : (x : Effects) → operation_step b l e ≡ passed x → After x
  unfolding operation_step given on_core moved_to
  operation_counts x k =
      let (_, k₁) = need_passed _ _ _ k in
      let (_, _, k₂) = then_passed _ _ k₁ in
      meaning_counts b (given l e) t w _ x k₂

  pub plan_counts : (x : Effects) → plan b l e ≡ passed x → After x
  unfolding plan
  plan_counts x k =
      let kind = e.state.core.place.kind in
      let (_, k₁) = need_passed _ _ _ k in
      elim (eqb kind 0) as (λ s. cond s (tests_step b l e) (cond (eqb kind 1) (operation_step b l e) (exit_step b l e)) ≡ passed x → After x) [
        | true ↦ λ m. tests_counts x m
        | false ↦ λ m.
            elim (eqb kind 1) as (λ s. cond s (operation_step b l e) (exit_step b l e) ≡ passed x → After x)
            [ true ↦ λ n. operation_counts x n | false ↦ λ n. exit_counts x n ] m
      ] k₁
