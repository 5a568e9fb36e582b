-- What an action asks for and what carrying it out leaves, by its case. Assumes nothing.
use Rattle.std.specs.Prelude.{◌≡◌, ℕ, ◌+◌, ◌<◌, ◌≤◌, true, List, [], ◌∷◌, ◌++◌, length, take, drop, set, replicate}
use mathlib.Core.Path.{refl, subst}
use types.Run.{miss}
use Rattle.character.specs.Character.{printed}
use Rattle.character.proofs.Digits.{length_printed}
use Rattle.block.specs.declared.SetUp.{SetUp}
use Rattle.block.specs.Blocks.{level, size_at}
use Rattle.block.specs.SetUp.{top, words, fitting}
use Rattle.block.specs.Map.{fresh_map, live, freed_map, delivered_map}
use Rattle.table.specs.declared.FieldName.{FieldName}
use Rattle.machine.specs.declared.Definition.{Definition}
use Rattle.machine.specs.declared.Location.{Location}
use Rattle.machine.specs.Storage.{placed}
use Rattle.operands.specs.Storing.{bugs_stored, words_stored}
use Rattle.operations.specs.declared.Action.{Action}
use Rattle.operations.specs.declared.Action.TheVariants as action
use Rattle.operations.specs.Deeds.{Deed, meant}
use Rattle.operations.specs.Deeds.{Store, StoreTwo, SetUpWords, Define, Deliver, DeliverTwo, Free}
use Rattle.operations.specs.Deeds.{Input, Print, Save, Restore, SaveDefinition, RestoreDefinition, Call}
use Rattle.operations.specs.Deeds.{Return}
use Rattle.commit.specs.Carried.{bugs_after, entries_after, map_after, zeroed, copied, words_after, output_after}
use Rattle.commit.specs.Feasible.{Ground, Run, Copy, ReachedIn, Feasible}
use Rattle.commit.proofs.Others.{Among}

-- what an action asks for
module _ (b : ℕ) (g : Ground) {x : Deed} (h : Feasible b g x) where
  pub store_asks : {at : Location} {v : ℕ} → x ≡ Store at v → ReachedIn b g at
  unfolding Feasible
  store_asks e = subst (Feasible b g) e h

  pub two_asks : {a c : Location} {v y : ℕ} → x ≡ StoreTwo a v c y → ReachedIn b g a × ReachedIn b g c
  unfolding Feasible
  two_asks e = subst (Feasible b g) e h

  pub set_up_asks : {u : SetUp} → x ≡ SetUpWords u → (fitting (length g.storage) u ≡ true) × (words u ≤ length g.map)
  unfolding Feasible
  set_up_asks e = subst (Feasible b g) e h

  pub define_asks : {f : FieldName} {d : Definition} → x ≡ Define f d → f.0 < 36
  unfolding Feasible
  define_asks e = subst (Feasible b g) e h

  pub deliver_asks : {address n from : ℕ} {a : Location} → x ≡ Deliver address n from a
      → Run g address n × ((from ≡ 0 → ⊥) → Copy g address n from) × ReachedIn b g a
  unfolding Feasible
  deliver_asks e = subst (Feasible b g) e h

  pub deliver_two_asks : {address n v : ℕ} {a a2 : Location} → x ≡ DeliverTwo address n a a2 v
      → Run g address n × ReachedIn b g a × ReachedIn b g a2
  unfolding Feasible
  deliver_two_asks e = subst (Feasible b g) e h

  pub free_asks : {address v : ℕ} {at : Location} → x ≡ Free address at v
      → ReachedIn b g at × (size_at address (live g.setup g.map) ≡ 0 → ⊥)
  unfolding Feasible
  free_asks e = subst (Feasible b g) e h

  pub input_asks : {v n : ℕ} {at : Location} → x ≡ Input at v n → ReachedIn b g at × (g.counts.taken + n ≤ g.given)
  unfolding Feasible
  input_asks e = subst (Feasible b g) e h

  pub print_asks : {n width v : ℕ} → x ≡ Print n width v → (width ≤ 64) × (g.counts.written + n ≤ g.room)
  unfolding Feasible
  print_asks e = subst (Feasible b g) e h

  pub save_asks : {v : ℕ} → x ≡ Save v → g.counts.contents < 128
  unfolding Feasible
  save_asks e = subst (Feasible b g) e h

  pub restore_asks : {v : ℕ} {at : Location} → x ≡ Restore at v → ReachedIn b g at × (0 < g.counts.contents) × (g.counts.contents ≤ 128)
  unfolding Feasible
  restore_asks e = subst (Feasible b g) e h

  pub save_definition_asks : {f : FieldName} → x ≡ SaveDefinition f → (f.0 < 36) × (g.counts.saved < 128)
  unfolding Feasible
  save_definition_asks e = subst (Feasible b g) e h

  pub restore_definition_asks : {f : FieldName} → x ≡ RestoreDefinition f → (f.0 < 36) × (0 < g.counts.saved) × (g.counts.saved ≤ 128)
  unfolding Feasible
  restore_definition_asks e = subst (Feasible b g) e h

  pub call_asks : {row : ℕ} → x ≡ Call row → (row < 65536) × (g.counts.calls < 128)
  unfolding Feasible
  call_asks e = subst (Feasible b g) e h

  pub return_asks : x ≡ Return → (0 < g.counts.calls) × (g.counts.calls ≤ 128)
  unfolding Feasible
  return_asks e = subst (Feasible b g) e h

-- what it leaves: bugs, entries, map, storage and output
abbrev Leaves : ℕ → SetUp → ℕ → ℕ → List ℕ → List ℕ → List ℕ → List ℕ → List ℕ → Deed → List ℕ → List ℕ → List ℕ → List ℕ → List ℕ → Type 0
Leaves b u count written bugs entries m ws out x bugs' entries' m' ws' out' =
    (bugs' ≡ bugs_after b x bugs)
    × (entries' ≡ entries_after count x entries)
    × (m' ≡ map_after u x m)
    × (ws' ≡ words_after b u.s1 x ws)
    × (out' ≡ output_after written x out)

-- actions that leave them all
abbrev idle : List ℕ
idle = 0 ∷ 4 ∷ 12 ∷ 13 ∷ 14 ∷ 15 ∷ []

module _ (b : ℕ) (u : SetUp) (count written : ℕ) (bugs entries m ws out : List ℕ) where
  pub idles : (x : Action) → Among idle x → Leaves b u count written bugs entries m ws out (meant x) bugs entries m ws out
  unfolding meant bugs_after entries_after map_after words_after output_after
  idles action.Nothing h = (refl, refl, refl, refl, refl)
  idles (action.Store at v) h = absurd (miss idle 1 tt h)
  idles (action.StoreTwo a v y w) h = absurd (miss idle 2 tt h)
  idles (action.SetUpWords w) h = absurd (miss idle 3 tt h)
  idles (action.Define f d) h = (refl, refl, refl, refl, refl)
  idles (action.Deliver address n from a) h = absurd (miss idle 5 tt h)
  idles (action.DeliverTwo address n a a2 v) h = absurd (miss idle 6 tt h)
  idles (action.Free address at v) h = absurd (miss idle 7 tt h)
  idles (action.Input at v n) h = absurd (miss idle 8 tt h)
  idles (action.Print n width v) h = absurd (miss idle 9 tt h)
  idles (action.Save v) h = absurd (miss idle 10 tt h)
  idles (action.Restore at v) h = absurd (miss idle 11 tt h)
  idles (action.SaveDefinition f) h = (refl, refl, refl, refl, refl)
  idles (action.RestoreDefinition f) h = (refl, refl, refl, refl, refl)
  idles (action.Call row) h = (refl, refl, refl, refl, refl)
  idles action.Return h = (refl, refl, refl, refl, refl)

module _ (b : ℕ) (u : SetUp) (count written : ℕ) (bugs entries m ws out : List ℕ) {x : Deed} where
  -- one store
  module _ {at : Location} {v : ℕ} where
    pub did_store : x ≡ Store at v → {bugs' ws' : List ℕ} → (bugs' ≡ bugs_stored b at v bugs) × (ws' ≡ words_stored b u.s1 at v ws)
        → Leaves b u count written bugs entries m ws out x bugs' entries m ws' out
    unfolding bugs_after entries_after map_after words_after output_after
    did_store e s = (rw e s.0, rw e, rw e, rw e s.1, rw e)

    pub did_input : {n : ℕ} → x ≡ Input at v n → {bugs' ws' : List ℕ} → (bugs' ≡ bugs_stored b at v bugs) × (ws' ≡ words_stored b u.s1 at v ws)
        → Leaves b u count written bugs entries m ws out x bugs' entries m ws' out
    unfolding bugs_after entries_after map_after words_after output_after
    did_input e s = (rw e s.0, rw e, rw e, rw e s.1, rw e)

    pub did_restore : x ≡ Restore at v → {bugs' ws' : List ℕ} → (bugs' ≡ bugs_stored b at v bugs) × (ws' ≡ words_stored b u.s1 at v ws)
        → Leaves b u count written bugs entries m ws out x bugs' entries m ws' out
    unfolding bugs_after entries_after map_after words_after output_after
    did_restore e s = (rw e s.0, rw e, rw e, rw e s.1, rw e)

    pub did_free : {address : ℕ} → x ≡ Free address at v → {bugs' m' ws' : List ℕ} → m' ≡ freed_map address u m
        → (bugs' ≡ bugs_stored b at v bugs) × (ws' ≡ words_stored b u.s1 at v ws)
        → Leaves b u count written bugs entries m ws out x bugs' entries m' ws' out
    unfolding bugs_after entries_after map_after words_after output_after
    did_free e freed s = (rw e s.0, rw e, rw e freed, rw e s.1, rw e)

  pub did_two : {a c : Location} {v y : ℕ} → x ≡ StoreTwo a v c y → {bugs' ws' bugs'' ws'' : List ℕ}
      → (bugs' ≡ bugs_stored b a v bugs) × (ws' ≡ words_stored b u.s1 a v ws)
      → (bugs'' ≡ bugs_stored b c y bugs') × (ws'' ≡ words_stored b u.s1 c y ws')
      → Leaves b u count written bugs entries m ws out x bugs'' entries m ws'' out
  unfolding bugs_after entries_after map_after words_after output_after
  did_two e s t = (rw (e, ← s.0) t.0, rw e, rw e, rw (e, ← s.1) t.1, rw e)

  pub did_set_up : {w : SetUp} → x ≡ SetUpWords w → {m' ws' : List ℕ} {n : ℕ} → n ≡ words w → m' ≡ fresh_map w (length m)
      → ws' ≡ placed 0 (replicate n 0) ws → Leaves b u count written bugs entries m ws out x bugs entries m' ws' out
  unfolding bugs_after entries_after map_after words_after output_after
  did_set_up e is made none = (rw e, rw e, rw e made, rw e (rw is at none), rw e)

  -- a delivery, and one store or two
  module _ {address n from : ℕ} {m' ws' : List ℕ}
      (d : (m' ≡ delivered_map (level (top u.d) n) address u m) × (ws' ≡ copied u.s1 address n from (zeroed u.s1 address n ws))) where
    pub did_deliver : {a : Location} → x ≡ Deliver address n from a → {bugs' ws'' : List ℕ}
        → (bugs' ≡ bugs_stored b a address bugs) × (ws'' ≡ words_stored b u.s1 a address ws')
        → Leaves b u count written bugs entries m ws out x bugs' entries m' ws'' out
    unfolding bugs_after entries_after map_after words_after output_after
    did_deliver e s = (rw e s.0, rw e, rw e d.0, rw (e, ← d.1) s.1, rw e)

  module _ {address n : ℕ} {m' ws' : List ℕ}
      (d : (m' ≡ delivered_map (level (top u.d) n) address u m) × (ws' ≡ copied u.s1 address n 0 (zeroed u.s1 address n ws))) where
    pub did_deliver_two : {a c : Location} {v : ℕ} → x ≡ DeliverTwo address n a c v → {bugs' ws'' bugs'' ws''' : List ℕ}
        → (bugs' ≡ bugs_stored b a address bugs) × (ws'' ≡ words_stored b u.s1 a address ws')
        → (bugs'' ≡ bugs_stored b c v bugs') × (ws''' ≡ words_stored b u.s1 c v ws'')
        → Leaves b u count written bugs entries m ws out x bugs'' entries m' ws''' out
    unfolding bugs_after entries_after map_after words_after output_after copied
    did_deliver_two e s t = (rw (e, ← s.0) t.0, rw e, rw e d.0, rw (e, ← d.1, ← s.1) t.1, rw e)

  pub did_print : {n width v : ℕ} → x ≡ Print n width v → {out' : List ℕ}
      → out' ≡ take written out ++ (printed n width v ++ drop (written + n) out)
      → Leaves b u count written bugs entries m ws out x bugs entries m ws out'
  unfolding bugs_after entries_after map_after words_after output_after placed
  did_print {n} {width} {v} e is = (rw e, rw e, rw e, rw e, rw (e, length_printed n width v) is)

  pub did_save : {v : ℕ} → x ≡ Save v → Leaves b u count written bugs entries m ws out x bugs (set entries count v) m ws out
  unfolding bugs_after entries_after map_after words_after output_after
  did_save e = (rw e, rw e, rw e, rw e, rw e)
