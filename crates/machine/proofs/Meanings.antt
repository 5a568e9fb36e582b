-- Each operation that is not refused keeps the core sound, and moves blocks and stores as `Moves` says.
-- Assumes nothing.
use Prim.Native.Nat.{ℕ, ◌^◌}
use mathlib.Core.Bool.{true}
use mathlib.Core.Path.{◌≡◌, refl, subst, ap, ◌∙◌}
use borrow.Author.Tests.{ltb-true}
use Rattle.table.specs.declared.FieldName.{FieldName}
use Rattle.machine.specs.declared.Core.{Core}
use Rattle.machine.specs.declared.State.{State}
use Rattle.machine.specs.declared.Location.{Location}
use Rattle.machine.specs.declared.Location.TheVariants.{Bug, Field}
use Rattle.machine.specs.Answer.{Checked, passed}
use Rattle.machine.specs.State.{tests_of, undefined, moved_to, with_bug, on_core, with_taken, with_written, with_definition}
use Rattle.machine.specs.State.{with_contents, with_saved, with_calls}
use Rattle.machine.specs.Storage.{no_store_of, no_report}
use Rattle.machine.specs.Sound.{Engine, is_definition, is_place, sound_place}
use Rattle.machine.specs.Locate.{world, Value, live_blocks, contents, definition_of}
use Rattle.machine.specs.Effects.{Effects, quietly, reporting, assigned, storing}
use Rattle.machine.specs.Operations.{Given, computing, interchange, and_storing, input, print, define, the_name, save_contents}
use Rattle.machine.specs.Operations.{restore_contents, save_definition, restore_definition, do_line}
use Rattle.machine.proofs.Checks.{need_passed, bind_passed, passed_same}
use Rattle.machine.proofs.Every.{below, every_get_d}
use Rattle.machine.proofs.Facts.{CoreFacts, Facts, push_facts, pop_facts, top_fact, moved_facts, assigned_facts}
use Rattle.machine.proofs.Facts.{defined_facts, contents_facts, saved_facts, calls_facts, taken_facts, written_facts}
use Rattle.machine.proofs.Located.{Located, nowhere, located, contents_below, store_facts, undefined_fits}
use Rattle.machine.proofs.Moves.{still, Done}

-- a store leaves the set-up numbers
pub assigned_setup : (b : ℕ) (at : Location) (v : ℕ) (c : Core) → (assigned b at v c).setup ≡ c.setup
unfolding assigned with_bug
assigned_setup b (Bug x) v c = refl
assigned_setup b (Field address left right) v c = refl

-- effects that report nothing
pub silent : (b : ℕ) (e : Engine) (x : Effects) → CoreFacts b x.state.core → x.state.core.setup ≡ e.state.core.setup
    → x.state.map ≡ e.state.map → x.report ≡ no_report → x.zeroed ≡ 0 → Done b e x
unfolding no_report no_store_of
silent b e x c u m r z =
    record {
      core = c;
      moves = still (record {
        setup = u;
        map = m;
        freed = ap (λ r. r.freed) r;
        delivered = ap (λ r. r.delivered) r;
        size = ap (λ r. r.size) r;
        copied = ap (λ r. r.copied) r;
        zeroed = z;
        first = nowhere (ap (λ r. r.first.address) r);
        second = nowhere (ap (λ r. r.second.address) r);
      });
    }

module _ (b : ℕ) (g : Given) (h : Facts b g.engine) where
  -- one store to a location
  one_store : (at : Location) (v : ℕ) (s : State) → CoreFacts b s.core → s.core.setup ≡ g.engine.state.core.setup
      → s.map ≡ g.engine.state.map → Located b (live_blocks g.engine) at → Done b g.engine (storing b at v s)
  unfolding storing reporting on_core no_store_of
  one_store at v s c u m l =
      record {
        core = assigned_facts b s.core c at v;
        moves = still (record {
          setup = assigned_setup b at v s.core ∙ u;
          map = m;
          freed = refl;
          delivered = refl;
          size = refl;
          copied = refl;
          zeroed = refl;
          first = store_facts b (live_blocks g.engine) at v l;
          second = nowhere refl;
        });
      }

  -- an operation that stores in a what it computes
  pub computing_done : (f : ℕ → Value → Value → Checked ℕ) (x : Effects) → computing f b g ≡ passed x → Done b g.engine x
  unfolding computing
  computing_done f x k =
      let (a, k₁, k₂) = bind_passed _ _ k in
      let (y, k₃, k₄) = bind_passed _ _ k₂ in
      let (v, k₅, k₆) = bind_passed _ _ k₄ in
      subst (Done b g.engine) (passed_same k₆)
      (one_store a v g.engine.state h.core refl refl (located b g.engine h.core g.row.first a k₁))

  -- 7 interchange
  pub interchange_done : (x : Effects) → interchange b g ≡ passed x → Done b g.engine x
  unfolding interchange and_storing storing reporting on_core
  interchange_done x k =
      let (a1, k₁, k₂) = bind_passed _ _ k in
      let (a2, k₃, k₄) = bind_passed _ _ k₂ in
      let s = g.engine.state in
      let l = live_blocks g.engine in
      let v = contents b (world g.engine) a2 in
      let w = contents b (world g.engine) a1 in
      let l1 = located b g.engine h.core g.row.first a1 k₁ in
      let l2 = located b g.engine h.core g.row.second a2 k₃ in
      subst (Done b g.engine) (passed_same k₄)
      (record {
        core = assigned_facts b _ (assigned_facts b s.core h.core a1 v) a2 w;
        moves = still (record {
          setup = assigned_setup b a2 w _ ∙ assigned_setup b a1 v s.core;
          map = refl;
          freed = refl;
          delivered = refl;
          size = refl;
          copied = refl;
          zeroed = refl;
          first = store_facts b l a1 v l1;
          second = store_facts b l a2 w l2;
        });
      })

  -- 24 input
  pub input_done : (x : Effects) → input b g ≡ passed x → Done b g.engine x
  unfolding input on_core with_taken
  input_done x k =
      let (a, k₁, k₂) = bind_passed _ _ k in
      let (n, _, k₄) = bind_passed _ _ k₂ in
      let (_, k₅) = need_passed _ _ _ k₄ in
      let (_, k₆) = need_passed _ _ _ k₅ in
      let (_, k₇) = need_passed _ _ _ k₆ in
      subst (Done b g.engine) (passed_same k₇)
      (one_store a _ _ (taken_facts b g.engine.state.core h.core _) refl refl
      (located b g.engine h.core g.row.first a k₁))

  -- 25 print
  pub print_done : (x : Effects) → print b g ≡ passed x → Done b g.engine x
  unfolding print on_core with_written quietly
  print_done x k =
      let (n, _, k₂) = bind_passed _ _ k in
      let (y, _, k₄) = bind_passed _ _ k₂ in
      let (_, k₅) = need_passed _ _ _ k₄ in
      let (_, k₆) = need_passed _ _ _ k₅ in
      subst (Done b g.engine) (passed_same k₆)
      (silent b g.engine _ (written_facts b g.engine.state.core h.core _) refl refl refl refl)

  -- 2 define
  pub define_done : (x : Effects) → define b g ≡ passed x → Done b g.engine x
  unfolding define on_core with_definition quietly is_definition
  define_done x k =
      let (word, _, k₂) = bind_passed _ _ k in
      let (left, _, k₄) = bind_passed _ _ k₂ in
      let (right, _, k₆) = bind_passed _ _ k₄ in
      let (fits, k₇) = need_passed _ _ _ k₆ in
      subst (Done b g.engine) (passed_same k₇)
      (silent b g.engine _ (defined_facts b g.engine.state.core h.core (the_name g) _ fits) refl refl refl refl)

  -- 32 save contents
  pub save_contents_done : (x : Effects) → save_contents b g ≡ passed x → Done b g.engine x
  unfolding save_contents on_core with_contents quietly
  save_contents_done x k =
      let (a, k₁, k₂) = bind_passed _ _ k in
      let (room, k₃) = need_passed _ _ _ k₂ in
      let c = g.engine.state.core in
      let l = located b g.engine h.core g.row.first a k₁ in
      subst (Done b g.engine) (passed_same k₃)
      (silent b g.engine _
      (contents_facts b c h.core _
      (push_facts (below (2 ^ b)) c.contents.count c.contents.entries h.core.contents _
      (contents_below b g.engine h.core a l) (ltb-true _ _ room)))
      refl refl refl refl)

  -- 33 restore contents
  pub restore_contents_done : (x : Effects) → restore_contents b g ≡ passed x → Done b g.engine x
  unfolding restore_contents on_core with_contents
  restore_contents_done x k =
      let (a, k₁, k₂) = bind_passed _ _ k in
      let (_, k₃) = need_passed _ _ _ k₂ in
      let c = g.engine.state.core in
      subst (Done b g.engine) (passed_same k₃)
      (one_store a _ _
      (contents_facts b c h.core _ (pop_facts (below (2 ^ b)) c.contents.count c.contents.entries h.core.contents))
      refl refl (located b g.engine h.core g.row.first a k₁))

  -- a field's definition is in range
  definition_fits : (f : FieldName) → is_definition b (definition_of f (world g.engine)) ≡ true
  unfolding definition_of world
  definition_fits f = every_get_d (is_definition b) f.0 g.engine.state.core.definitions undefined h.core.definitions (undefined_fits b)

  -- 34 save a definition
  pub save_definition_done : (x : Effects) → save_definition b g ≡ passed x → Done b g.engine x
  unfolding save_definition on_core with_saved quietly
  save_definition_done x k =
      let (room, k₃) = need_passed _ _ _ k in
      let c = g.engine.state.core in
      subst (Done b g.engine) (passed_same k₃)
      (silent b g.engine _
      (saved_facts b c h.core _
      (push_facts (is_definition b) c.saved.count c.saved.entries h.core.saved _ (definition_fits (the_name g)) (ltb-true _ _ room)))
      refl refl refl refl)

  -- 35 restore a definition
  pub restore_definition_done : (x : Effects) → restore_definition b g ≡ passed x → Done b g.engine x
  unfolding restore_definition on_core with_saved with_definition quietly
  restore_definition_done x k =
      let (some, k₃) = need_passed _ _ _ k in
      let c = g.engine.state.core in
      let s = h.core.saved in
      subst (Done b g.engine) (passed_same k₃)
      (silent b g.engine _
      (defined_facts b (with_saved _ c)
      (saved_facts b c h.core _ (pop_facts (is_definition b) c.saved.count c.saved.entries s)) (the_name g) _
      (top_fact (is_definition b) c.saved.count c.saved.entries s (ltb-true _ _ some) undefined (undefined_fits b)))
      refl refl refl refl)

  -- 36 DO: the place saved is the one after it, and the row named is in range
  pub do_line_done : is_place g.engine.state.core.place ≡ true → sound_place (tests_of g.row.first.value) ≡ true
      → (x : Effects) → do_line b g ≡ passed x → Done b g.engine x
  unfolding do_line on_core with_calls moved_to quietly
  do_line_done p q x k =
      let (room, k₃) = need_passed _ _ _ k in
      let c = g.engine.state.core in
      subst (Done b g.engine) (passed_same k₃)
      (silent b g.engine _
      (moved_facts b (with_calls _ c)
      (calls_facts b c h.core _
      (push_facts is_place c.calls.count c.calls.entries h.core.calls c.place p (ltb-true _ _ room)))
      _ q)
      refl refl refl refl)
