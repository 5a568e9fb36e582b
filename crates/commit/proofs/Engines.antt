-- An action's effects on an engine, its output and its report are what carrying it out leaves and reports. Assumes nothing.
use Rattle.std.specs.Prelude.{◌≡◌, ℕ, Bool, true, false, cond, List, replicate}
use native.Mathlib.Omega.{arith}
use mathlib.Core.Path.{refl, ap, ap₂, ◌∙◌}
use borrow.Author.Tests.{eq-eqb}
use Rattle.word.specs.Field.{width}
use Rattle.machine.specs.declared.Place.{Place}
use Rattle.machine.specs.declared.Location.{Location}
use Rattle.machine.specs.declared.Location.TheVariants.{Bug, Field}
use Rattle.machine.specs.declared.Core.{Core}
use Rattle.machine.specs.declared.State.{State}
use Rattle.machine.specs.State.{with_width, moved_to, with_bug, with_definition, with_contents, with_saved, with_calls, with_set_up}
use Rattle.machine.specs.State.{with_taken, with_written, on_core, with_map}
use Rattle.machine.specs.Storage.{no_store_of, no_report, placed, with_store, with_delivery, with_copy, after_report}
use Rattle.machine.specs.Sound.{Engine}
use Rattle.machine.specs.Operations.{delivering, and_storing}
use Rattle.machine.specs.Effects.{Effects, quietly, reporting, assigned, store_to, storing, storage_after, engine_after}
use Rattle.machine.proofs.Placed.{placed_none}
use Rattle.machine.proofs.Keeps.{stores_only, not_zeroed}
use Rattle.operands.proofs.Reported.{NotNull, store_words}
use Rattle.operands.specs.Storing.{bugs_stored, words_stored}
use Rattle.operations.specs.declared.Counts.{Counts}
use Rattle.operations.specs.Deeds.{Deed}
use Rattle.operations.specs.Deeds.{Nothing, Store, StoreTwo, SetUpWords, Define, Deliver, DeliverTwo, Free}
use Rattle.operations.specs.Deeds.{Input, Print, Save, Restore, SaveDefinition, RestoreDefinition, Call}
use Rattle.operations.specs.Deeds.{Return}
use Rattle.operations.specs.Effects.{effects}
use Rattle.commit.specs.declared.Records.{Records}
use Rattle.commit.specs.Carried.{bugs_after, entries_after, map_after, zeroed, copied, words_after, output_after, setup_after}
use Rattle.commit.specs.Carried.{counts_after, place_after, records_after, is_recorded}
use Rattle.commit.specs.Reported.{report_of}
use Rattle.commit.specs.Then.{engine_then}

-- an action whose stores are not at address zero
unfoldable pub Sure : Deed → Type 0
Sure Nothing = Unit {0}
Sure (Store at v) = NotNull at
Sure (StoreTwo a v c x) = NotNull a × NotNull c
Sure (SetUpWords u) = Unit {0}
Sure (Define f x) = Unit {0}
Sure (Deliver address n from a) = NotNull a
Sure (DeliverTwo address n a a2 v) = NotNull a × NotNull a2
Sure (Free address at v) = NotNull at
Sure (Input at v n) = NotNull at
Sure (Print n width v) = Unit {0}
Sure (Save v) = Unit {0}
Sure (Restore at v) = NotNull at
Sure (SaveDefinition f) = Unit {0}
Sure (RestoreDefinition f) = Unit {0}
Sure (Call row) = Unit {0}
Sure Return = Unit {0}

-- a store's part in the core
abbrev with_bugs : List ℕ → Core → Core
with_bugs bugs c =
    record {
      place = c.place;
      bugs = bugs;
      definitions = c.definitions;
      contents = c.contents;
      saved = c.saved;
      calls = c.calls;
      setup = c.setup;
      taken = c.taken;
      written = c.written;
    }

assigned_as : (b : ℕ) (at : Location) (v : ℕ) (c : Core) → assigned b at v c ≡ with_bugs (bugs_stored b at v c.bugs) c
unfolding assigned bugs_stored with_bug
assigned_as b (Bug x) v c = refl
assigned_as b (Field address left right) v c = refl

-- the storage after effects that deliver nothing: two stores, one, or none
module _ (b : ℕ) (x : Effects) (ws : List ℕ) (z : x.zeroed ≡ 0) (size : x.report.size ≡ 0) (none : x.report.copied ≡ 0) where
  stored_two : (a c : Location) (v w : ℕ) → NotNull a → NotNull c → x.report.first ≡ store_to a v → x.report.second ≡ store_to c w
      → storage_after b x ws ≡ words_stored b x.state.core.setup.s1 c w (words_stored b x.state.core.setup.s1 a v ws)
  stored_two a c v w h k first second =
      not_zeroed b x ws z
      ∙ stores_only b x.state.core.setup.s1 x.report ws size none
      ∙ rw (first, second, store_words b x.state.core.setup.s1 a v ws h) (store_words b _ c w _ k)

  stored_once : (at : Location) (v : ℕ) → NotNull at → x.report.first ≡ store_to at v → x.report.second ≡ no_store_of
      → storage_after b x ws ≡ words_stored b x.state.core.setup.s1 at v ws
  unfolding with_store no_store_of
  stored_once at v h first second =
      not_zeroed b x ws z
      ∙ stores_only b x.state.core.setup.s1 x.report ws size none
      ∙ rw second (rw first (store_words b _ at v ws h))

  stored_none : x.report.first ≡ no_store_of → x.report.second ≡ no_store_of → storage_after b x ws ≡ ws
  unfolding with_store no_store_of
  stored_none first second =
      not_zeroed b x ws z ∙ stores_only b x.state.core.setup.s1 x.report ws size none ∙ rw (second, first)

-- the storage after effects that deliver, and store once or twice
module _ (b : ℕ) (x : Effects) (ws : List ℕ) (z : x.zeroed ≡ 0) (a : Location) (h : NotNull a) (first : x.report.first
    ≡ store_to a x.report.delivered) where
  delivered_once : x.report.second ≡ no_store_of
      → storage_after b x ws
      ≡ words_stored b x.state.core.setup.s1 a x.report.delivered
      (copied x.state.core.setup.s1 x.report.delivered x.report.size x.report.copied
      (zeroed x.state.core.setup.s1 x.report.delivered x.report.size ws))
  unfolding after_report with_copy with_delivery copied zeroed with_store no_store_of
  delivered_once second = not_zeroed b x ws z ∙ rw second (rw first (store_words b _ a x.report.delivered _ h))

  delivered_two : (c : Location) (w : ℕ) → NotNull c → x.report.copied ≡ 0 → x.report.second ≡ store_to c w
      → storage_after b x ws
      ≡ words_stored b x.state.core.setup.s1 c w
      (words_stored b x.state.core.setup.s1 a x.report.delivered
      (zeroed x.state.core.setup.s1 x.report.delivered x.report.size ws))
  unfolding after_report with_copy with_delivery zeroed
  delivered_two c w k none second =
      not_zeroed b x ws z
      ∙ rw (first, second, eq-eqb _ 0 none, store_words b x.state.core.setup.s1 a x.report.delivered _ h)
      (store_words b _ c w _ k)

-- the storage after effects that report nothing and zero so many words
set_up_words : (b : ℕ) (x : Effects) (ws : List ℕ) → x.report ≡ no_report → storage_after b x ws ≡ placed 0 (replicate x.zeroed 0) ws
unfolding storage_after after_report with_copy with_delivery with_store no_report no_store_of
set_up_words b x ws none = rw (none, placed_none)

same_engine : {s t : State} {ws vs : List ℕ} → s ≡ t → ws ≡ vs → ◌≡◌ {A = Engine} (record { state = s; storage = ws }) (record { state = t; storage = vs })
same_engine {s} {t} {ws} {vs} h k = ap₂ (λ (s : State) (ws : List ℕ). ◌:>◌ s ws) h k
  where
    ◌:>◌ : State → List ℕ → Engine
    ◌:>◌ s ws = record { state = s; storage = ws }

-- the effects of an action on the engine
module _ (b : ℕ) (e : Engine) (to : Place) where
  abbrev given : Deed → Effects
  given x = effects b x (on_core (moved_to to) e.state)

  state_as : (x : Deed) → (given x).state ≡ (engine_then b to x e).state
  unfolding effects quietly reporting storing and_storing delivering on_core moved_to with_map with_definition with_contents with_saved with_calls with_set_up
      with_taken with_written place_after bugs_after records_after entries_after counts_after setup_after map_after
  state_as Nothing = refl
  state_as (Store at v) = rw assigned_as
  state_as (StoreTwo a v c x) = rw (assigned_as b a v, assigned_as b c x)
  state_as (SetUpWords u) = refl
  state_as (Define f x) = refl
  state_as (Deliver address n from a) = rw assigned_as
  state_as (DeliverTwo address n a a2 v) = rw (assigned_as b a address, assigned_as b a2 v)
  state_as (Free address at v) = rw assigned_as
  state_as (Input at v n) = rw assigned_as
  state_as (Print n width v) = refl
  state_as (Save v) = refl
  state_as (Restore at v) = rw assigned_as
  state_as (SaveDefinition f) = refl
  state_as (RestoreDefinition f) = refl
  state_as (Call row) = refl
  state_as Return = refl

  words_as : (x : Deed) → Sure x → storage_after b (given x) e.storage ≡ (engine_then b to x e).storage
  unfolding Sure effects quietly reporting storing and_storing delivering on_core moved_to with_map with_definition with_contents with_saved with_calls
      with_set_up with_taken with_written assigned with_bug no_report words_after
  words_as Nothing h = stored_none b (given Nothing) e.storage refl refl refl refl refl
  words_as (Store at v) h = stored_once b (given (Store at v)) e.storage refl refl refl at v h refl refl ∙ rw assigned_as
  words_as (StoreTwo a v c x) h =
      stored_two b (given (StoreTwo a v c x)) e.storage refl refl refl a c v x h.0 h.1 refl refl ∙ rw (assigned_as b a v, assigned_as b c x)
  words_as (SetUpWords u) h = set_up_words b (given (SetUpWords u)) e.storage refl
  words_as (Define f x) h = stored_none b (given (Define f x)) e.storage refl refl refl refl refl
  words_as (Deliver address n from a) h =
      delivered_once b (given (Deliver address n from a)) e.storage refl a h refl refl ∙ rw assigned_as
  words_as (DeliverTwo address n a a2 v) h =
      delivered_two b (given (DeliverTwo address n a a2 v)) e.storage refl a h.0 refl a2 v h.1 refl refl
      ∙ rw (assigned_as b a address, assigned_as b a2 v)
  words_as (Free address at v) h = stored_once b (given (Free address at v)) e.storage refl refl refl at v h refl refl ∙ rw assigned_as
  words_as (Input at v n) h = stored_once b (given (Input at v n)) e.storage refl refl refl at v h refl refl ∙ rw assigned_as
  words_as (Print n width v) h = stored_none b (given (Print n width v)) e.storage refl refl refl refl refl
  words_as (Save v) h = stored_none b (given (Save v)) e.storage refl refl refl refl refl
  words_as (Restore at v) h = stored_once b (given (Restore at v)) e.storage refl refl refl at v h refl refl ∙ rw assigned_as
  words_as (SaveDefinition f) h = stored_none b (given (SaveDefinition f)) e.storage refl refl refl refl refl
  words_as (RestoreDefinition f) h = stored_none b (given (RestoreDefinition f)) e.storage refl refl refl refl refl
  words_as (Call row) h = stored_none b (given (Call row)) e.storage refl refl refl refl refl
  words_as Return h = stored_none b (given Return) e.storage refl refl refl refl refl

  pub effects_as : (x : Deed) → Sure x → engine_after b (effects b x (on_core (moved_to to) e.state)) e ≡ engine_then b to x e
  unfolding engine_after
  effects_as x h = same_engine (ap (with_width e.state.width) (state_as x)) (words_as x h)

-- the output and the report of an action
module _ (b : ℕ) (s : State) where
  pub output_as : (x : Deed) (written : ℕ) (out : List ℕ) → placed written (effects b x s).printed out ≡ output_after written x out
  unfolding effects quietly reporting storing and_storing delivering output_after
  output_as Nothing written out = placed_none written out
  output_as (Store at v) written out = placed_none written out
  output_as (StoreTwo a v c x) written out = placed_none written out
  output_as (SetUpWords u) written out = placed_none written out
  output_as (Define f x) written out = placed_none written out
  output_as (Deliver address n from a) written out = placed_none written out
  output_as (DeliverTwo address n a a2 v) written out = placed_none written out
  output_as (Free address at v) written out = placed_none written out
  output_as (Input at v n) written out = placed_none written out
  output_as (Print n width v) written out = refl
  output_as (Save v) written out = placed_none written out
  output_as (Restore at v) written out = placed_none written out
  output_as (SaveDefinition f) written out = placed_none written out
  output_as (RestoreDefinition f) written out = placed_none written out
  output_as (Call row) written out = placed_none written out
  output_as Return written out = placed_none written out

  pub report_as : (x : Deed) → (effects b x s).report ≡ report_of x
  unfolding effects quietly reporting storing and_storing delivering report_of
  report_as Nothing = refl
  report_as (Store at v) = refl
  report_as (StoreTwo a v c x) = refl
  report_as (SetUpWords u) = refl
  report_as (Define f x) = refl
  report_as (Deliver address n from a) = refl
  report_as (DeliverTwo address n a a2 v) = refl
  report_as (Free address at v) = refl
  report_as (Input at v n) = refl
  report_as (Print n width v) = refl
  report_as (Save v) = refl
  report_as (Restore at v) = refl
  report_as (SaveDefinition f) = refl
  report_as (RestoreDefinition f) = refl
  report_as (Call row) = refl
  report_as Return = refl

-- an action that is not recorded leaves place and records
never : (P : Type 0) → true ≡ false → P
never P e = let z : ◌≡◌ {A = ℕ} 0 1 = ap (λ (t : Bool). cond t 0 1) e in absurd (omega arith)

pub not_recorded : (x : Deed) (to : Place) (calls : List Place) (n : ℕ) (c : Counts) (r : Records) → is_recorded x ≡ false
    → (place_after x to calls n ≡ to) × (records_after x to c r ≡ r)
unfolding is_recorded place_after records_after
not_recorded Nothing to calls n c r e = (refl, refl)
not_recorded (Store at v) to calls n c r e = (refl, refl)
not_recorded (StoreTwo a v x y) to calls n c r e = (refl, refl)
not_recorded (SetUpWords u) to calls n c r e = (refl, refl)
not_recorded (Define f x) to calls n c r e = never _ e
not_recorded (Deliver address m from a) to calls n c r e = (refl, refl)
not_recorded (DeliverTwo address m a a2 v) to calls n c r e = (refl, refl)
not_recorded (Free address at v) to calls n c r e = (refl, refl)
not_recorded (Input at v m) to calls n c r e = (refl, refl)
not_recorded (Print m width v) to calls n c r e = (refl, refl)
not_recorded (Save v) to calls n c r e = (refl, refl)
not_recorded (Restore at v) to calls n c r e = (refl, refl)
not_recorded (SaveDefinition f) to calls n c r e = never _ e
not_recorded (RestoreDefinition f) to calls n c r e = never _ e
not_recorded (Call row) to calls n c r e = never _ e
not_recorded Return to calls n c r e = never _ e
