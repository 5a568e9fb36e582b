-- Soundness as facts, one for each clause of refusal 11, and the core's facts after each change of one part.
-- Assumes nothing.
use Prim.Native.Nat.{ℕ, suc, ◌-◌, ◌%◌, ◌^◌, ◌≤◌, ◌<◌}
use native.Mathlib.Nat.{mod-lt}
use native.Mathlib.Omega.{arith}
use mathlib.Core.Bool.{Bool, true, ◌||◌}
use mathlib.Core.List.{List}
use mathlib.Core.Path.{◌≡◌}
use borrow.Author.Tests.{lt-ltb, le-leb, leb-true}
use lib.ListN.{length, get_or, set, take}
use lib.Pow.{pow_pos}
use Rattle.word.proofs.Tests.{and_true as and_parts}
use Rattle.block.specs.declared.SetUp.{SetUp}
use Rattle.block.specs.SetUp.{words, fitting, absent}
use Rattle.block.specs.Map.{keeps}
use Rattle.table.specs.declared.FieldName.{FieldName}
use Rattle.machine.specs.declared.Place.{Place}
use Rattle.machine.specs.declared.Definition.{Definition}
use Rattle.machine.specs.declared.Stack.{Stack}
use Rattle.machine.specs.declared.Core.{Core}
use Rattle.machine.specs.declared.State.{State}
use Rattle.machine.specs.declared.Location.{Location}
use Rattle.machine.specs.declared.Location.TheVariants.{Bug, Field}
use Rattle.machine.specs.State.{moved_to, with_bug, with_definition, with_contents, with_saved, with_calls, with_set_up, with_taken}
use Rattle.machine.specs.State.{with_written}
use Rattle.machine.specs.Sound.{Engine, every, is_place, is_definition, sound_place, sound_stack, sound_stacks, sound_core}
use Rattle.machine.specs.Sound.{sound_storage, sound_engine}
use Rattle.machine.specs.Effects.{assigned}
use Rattle.machine.proofs.Checks.{and_true}
use Rattle.machine.proofs.Every.{below, every_set, every_push, every_fewer, every_at}

-- a stack has at most 128 entries, and each used one passes a test
pub record StackFacts {A : Type 0} (f : A → Bool) (count : ℕ) (entries : List A) : Type 0 where
  pub few : count ≤ 128
  pub used : every f (take count entries) ≡ true

-- the clauses on the core
pub record CoreFacts (b : ℕ) (c : Core) : Type 0 where
  pub bugs : every (below (2 ^ b)) c.bugs ≡ true
  pub definitions : every (is_definition b) c.definitions ≡ true
  pub place : sound_place c.place ≡ true
  pub contents : StackFacts (below (2 ^ b)) c.contents.count c.contents.entries
  pub saved : StackFacts (is_definition b) c.saved.count c.saved.entries
  pub calls : StackFacts is_place c.calls.count c.calls.entries

-- the clauses on set-up numbers, blocks and set-up words
pub record StorageFacts (b : ℕ) (s : State) (storage : List ℕ) : Type 0 where
  pub numbers : (fitting (length storage) s.core.setup || absent s.core.setup) ≡ true
  pub blocks : keeps s.core.setup s.map ≡ true
  pub values : every (below (2 ^ b)) (take (words s.core.setup) storage) ≡ true

module _ {A : Type 0} (f : A → Bool) (count : ℕ) (entries : List A) where
  stack_facts : sound_stack f count entries ≡ true → StackFacts f count entries
  unfolding sound_stack
  stack_facts h = let (few, used) = and_parts _ _ h in record { few = leb-true _ _ few; used = used }

  sound_stack_lem : StackFacts f count entries → sound_stack f count entries ≡ true
  unfolding sound_stack
  sound_stack_lem h = and_true (le-leb _ _ h.few) h.used

  -- one entry more
  pub push_facts : StackFacts f count entries → (v : A) → f v ≡ true → count < 128
      → StackFacts f (suc count) (set entries count v)
  push_facts h v k p = record { few = p; used = every_push f count entries v h.used k }

  -- one entry less
  pub pop_facts : StackFacts f count entries → StackFacts f (count - 1) entries
  pop_facts h =
      let few : count ≤ 128 = h.few in
      record { few = omega arith; used = every_fewer f (count - 1) count entries (omega arith) h.used }

  -- the newest entry
  pub top_fact : StackFacts f count entries → 0 < count → (d : A) → f d ≡ true → f (get_or entries (count - 1) d) ≡ true
  top_fact h p d k = every_at f count (count - 1) entries d (omega arith) h.used k

pub core_facts : (b : ℕ) (c : Core) → sound_core b c ≡ true → CoreFacts b c
unfolding sound_core sound_stacks
core_facts b c h =
    let (h₃, stacks) = and_parts _ _ h in
    let (h₂, place) = and_parts _ _ h₃ in
    let (bugs, definitions) = and_parts _ _ h₂ in
    let (s₁, calls) = and_parts _ _ stacks in
    let (contents, saved) = and_parts _ _ s₁ in
    record {
      bugs = bugs;
      definitions = definitions;
      place = place;
      contents = stack_facts _ _ _ contents;
      saved = stack_facts _ _ _ saved;
      calls = stack_facts _ _ _ calls;
    }

pub storage_facts : (b : ℕ) (s : State) (storage : List ℕ) → sound_storage b s.core.setup s.map storage ≡ true → StorageFacts b s storage
unfolding sound_storage
storage_facts b s storage h =
    let (s₁, values) = and_parts _ _ h in
    let (numbers, blocks) = and_parts _ _ s₁ in
    record { numbers = numbers; blocks = blocks; values = values }

-- all facts of a sound engine
pub record Facts (b : ℕ) (e : Engine) : Type 0 where
  pub core : CoreFacts b e.state.core
  pub storage : StorageFacts b e.state e.storage

pub sound_facts : (b : ℕ) (e : Engine) → sound_engine b e ≡ true → Facts b e
unfolding sound_engine
sound_facts b e h =
    let parts = and_parts (sound_core b e.state.core) (sound_storage b e.state.core.setup e.state.map e.storage) h in
    record { core = core_facts b e.state.core parts.0; storage = storage_facts b e.state e.storage parts.1 }

pub facts_sound : (b : ℕ) (e : Engine) → Facts b e → sound_engine b e ≡ true
unfolding sound_engine sound_core sound_stacks sound_storage
facts_sound b e h =
    let c = h.core in
    let s = h.storage in
    and_true
    (and_true (and_true (and_true c.bugs c.definitions) c.place)
    (and_true
    (and_true (sound_stack_lem _ _ _ c.contents) (sound_stack_lem _ _ _ c.saved))
    (sound_stack_lem _ _ _ c.calls)))
    (and_true (and_true s.numbers s.blocks) s.values)

-- a value cut to b bits is below 2 ^ b
pub cut_below : (b v : ℕ) → below (2 ^ b) (v % 2 ^ b) ≡ true
cut_below b v = lt-ltb _ _ (mod-lt v (pow_pos b))

-- the facts by parts
abbrev facts : {b : ℕ} {c : Core} → every (below (2 ^ b)) c.bugs ≡ true → every (is_definition b) c.definitions ≡ true
    → sound_place c.place ≡ true → StackFacts (below (2 ^ b)) c.contents.count c.contents.entries
    → StackFacts (is_definition b) c.saved.count c.saved.entries
    → StackFacts is_place c.calls.count c.calls.entries → CoreFacts b c
facts x y z u v w = record { bugs = x; definitions = y; place = z; contents = u; saved = v; calls = w }

module _ (b : ℕ) (c : Core) (h : CoreFacts b c) where
  -- a new place in range
  pub moved_facts : (p : Place) → sound_place p ≡ true → CoreFacts b (moved_to p c)
  unfolding moved_to
  moved_facts p k = facts h.bugs h.definitions k h.contents h.saved h.calls

  -- a store to a location
  pub assigned_facts : (at : Location) (v : ℕ) → CoreFacts b (assigned b at v c)
  unfolding assigned with_bug
  assigned_facts (Bug x) v =
      facts (every_set (below (2 ^ b)) c.bugs x.0 (v % 2 ^ b) h.bugs (cut_below b v)) h.definitions h.place h.contents h.saved h.calls
  assigned_facts (Field address left right) v = h

  -- a definition in range
  pub defined_facts : (f : FieldName) (x : Definition) → is_definition b x ≡ true → CoreFacts b (with_definition f x c)
  unfolding with_definition
  defined_facts f x k =
      facts h.bugs (every_set (is_definition b) c.definitions f.0 x h.definitions k) h.place h.contents h.saved h.calls

  -- another stack that is sound
  pub contents_facts : (x : Stack ℕ) → StackFacts (below (2 ^ b)) x.count x.entries → CoreFacts b (with_contents x c)
  unfolding with_contents
  contents_facts x k = facts h.bugs h.definitions h.place k h.saved h.calls

  pub saved_facts : (x : Stack Definition) → StackFacts (is_definition b) x.count x.entries → CoreFacts b (with_saved x c)
  unfolding with_saved
  saved_facts x k = facts h.bugs h.definitions h.place h.contents k h.calls

  pub calls_facts : (x : Stack Place) → StackFacts is_place x.count x.entries → CoreFacts b (with_calls x c)
  unfolding with_calls
  calls_facts x k = facts h.bugs h.definitions h.place h.contents h.saved k

  -- other set-up numbers or counts
  pub setup_facts : (u : SetUp) → CoreFacts b (with_set_up u c)
  unfolding with_set_up
  setup_facts u = facts h.bugs h.definitions h.place h.contents h.saved h.calls

  pub taken_facts : (n : ℕ) → CoreFacts b (with_taken n c)
  unfolding with_taken
  taken_facts n = facts h.bugs h.definitions h.place h.contents h.saved h.calls

  pub written_facts : (n : ℕ) → CoreFacts b (with_written n c)
  unfolding with_written
  written_facts n = facts h.bugs h.definitions h.place h.contents h.saved h.calls
