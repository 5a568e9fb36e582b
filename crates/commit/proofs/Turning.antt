-- What counts, place, records and reports are after an action, by its case. Assumes nothing.
use Rattle.std.specs.Prelude.{◌≡◌, ℕ, zero, suc, ◌+◌, ◌-◌, ◌<◌, ◌≤◌, false, List, [], ◌∷◌, length, get_or, set}
use native.Mathlib.Omega.{arith}
use mathlib.Core.Path.{refl, sym, ap, subst, ◌∙◌}
use borrow.Author.Tests.{eq-eqb, ne_eqb}
use lib.ListN.{length-set}
use Rattle.word.specs.Field.{width, kept}
use Rattle.table.specs.declared.BugLetter.{BugLetter}
use Rattle.table.specs.declared.FieldName.{FieldName}
use Rattle.machine.specs.declared.Place.{Place}
use Rattle.machine.specs.declared.Definition.{Definition}
use Rattle.machine.specs.declared.Location.{Location}
use Rattle.machine.specs.declared.Location.TheVariants.{Bug, Field}
use Rattle.machine.specs.declared.Store as stores
use Rattle.machine.specs.State.{undefined, tests_of, the_end}
use Rattle.machine.specs.Storage.{no_store_of}
use Rattle.machine.specs.Effects.{store_to}
use Rattle.operands.specs.Packing.{unpacked, unpacked_all}
use Rattle.operands.specs.Reading.{Reached}
use Rattle.operations.specs.declared.Counts.{Counts}
use Rattle.operations.specs.Deeds.{Deed}
use Rattle.operations.specs.Deeds.{Nothing, Store, StoreTwo, SetUpWords, Define, Deliver, DeliverTwo, Free}
use Rattle.operations.specs.Deeds.{Input, Print, Save, Restore, SaveDefinition, RestoreDefinition, Call}
use Rattle.operations.specs.Deeds.{Return}
use Rattle.commit.specs.declared.Records.{Records}
use Rattle.commit.specs.Carried.{recording, place_after, records_after, is_recorded}
use Rattle.commit.specs.Feasible.{Ground, Feasible, Countable, Counted}
use Rattle.commit.specs.Reported.{Short, Reportable}
use Rattle.operands.proofs.Reported.{NotNull}
use Rattle.operands.proofs.Unpacking.{unpacked_set}
use Rattle.commit.proofs.Engines.{Sure, not_recorded}
use Rattle.commit.proofs.Carrying.{define_asks, input_asks, print_asks, save_asks, restore_asks, save_definition_asks}
use Rattle.commit.proofs.Carrying.{restore_definition_asks, call_asks, return_asks}

-- inside a list no other value counts
pub any_place : (l : List Place) (i : ℕ) (d f : Place) → i < length l → get_or l i d ≡ get_or l i f
any_place [] i d f h = absurd (omega arith)
any_place (x ∷ xs) zero d f h = refl
any_place (x ∷ xs) (suc i) d f h = any_place xs i d f (omega arith)

-- what is taken and written stays inside input and output
module _ {counts : Counts} {given room : ℕ} {x : Deed} (k : Counted counts given room x) where
  pub input_fits : {at : Location} {v n : ℕ} → x ≡ Input at v n → counts.taken + n ≤ given
  input_fits e =
      let same = ap (λ (c : Counts). c.taken) k.countable.same in
      omega (arith, k.input, (input_asks k.countable.width k.countable.on k.countable.feasible e).1)

  pub print_fits : {n width v : ℕ} → x ≡ Print n width v → counts.written + n ≤ room
  print_fits e =
      let same = ap (λ (c : Counts). c.written) k.countable.same in
      omega (arith, k.output, (print_asks k.countable.width k.countable.on k.countable.feasible e).1)

-- what the counts leave room for
module _ {counts : Counts} {x : Deed} (k : Countable counts x) where
  pub save_room : {v : ℕ} → x ≡ Save v → counts.contents < 128
  save_room e = subst (λ (c : Counts). c.contents < 128) k.same (save_asks k.width k.on k.feasible e)

  pub restore_room : {v : ℕ} {at : Location} → x ≡ Restore at v → 0 < counts.contents
  restore_room e = subst (λ (c : Counts). 0 < c.contents) k.same (restore_asks k.width k.on k.feasible e).1

  pub define_name : {f : FieldName} {d : Definition} → x ≡ Define f d → f.0 < 36
  define_name e = define_asks k.width k.on k.feasible e

  pub save_definition_room : {f : FieldName} → x ≡ SaveDefinition f → (f.0 < 36) × (counts.saved < 128)
  save_definition_room e =
      let h = save_definition_asks k.width k.on k.feasible e in
      (h.0, subst (λ (c : Counts). c.saved < 128) k.same h.1)

  pub restore_definition_room : {f : FieldName} → x ≡ RestoreDefinition f → (f.0 < 36) × (0 < counts.saved) × (counts.saved ≤ 128)
  restore_definition_room e =
      let h = restore_definition_asks k.width k.on k.feasible e in
      (h.0, subst (λ (c : Counts). 0 < c.saved) k.same h.1, subst (λ (c : Counts). c.saved ≤ 128) k.same h.2)

  pub call_room : {row : ℕ} → x ≡ Call row → (row < 65536) × (counts.calls < 128)
  call_room e =
      let h = call_asks k.width k.on k.feasible e in
      (h.0, subst (λ (c : Counts). c.calls < 128) k.same h.1)

  pub return_room : x ≡ Return → (0 < counts.calls) × (counts.calls ≤ 128)
  return_room e = subst (λ (c : Counts). (0 < c.calls) × (c.calls ≤ 128)) k.same (return_asks k.width k.on k.feasible e)

-- a turn by the parts that change in place: the place, the definitions with the numbers that they are packed into, and two stacks
pub record Turned (x : Deed) (to : Place) (c : Counts) (r : Records) (y : Deed) (p : Place) (ds ss : List Definition) (ps : List Place)
    (fields : List ℕ) : Type 0 where
  pub same : y ≡ x
  pub place : p ≡ place_after x to r.calls c.calls
  pub records : recording ds ss ps ≡ records_after x to c r
  pub packed : unpacked_all fields ≡ ds
  pub long : length ps ≡ length r.calls

module _ {x y : Deed} (to : Place) (c : Counts) (r : Records) {p : Place} {ds ss : List Definition} {ps : List Place} (fields : List ℕ) {fs : List ℕ}
    (was : unpacked_all fields ≡ r.definitions) where
  pub turned_kept : is_recorded x ≡ false → p ≡ to → ds ≡ r.definitions → ss ≡ r.saved → ps ≡ r.calls → fs ≡ fields → y ≡ x → Turned x to c r y p ds ss ps fs
  turned_kept e at d s k f same =
      let h = not_recorded x to r.calls c.calls c r e in
      record { same = same; place = at ∙ sym h.0; records = rw (d, s, k) (sym h.1); packed = rw (f, d) was; long = ap length k }

  pub turned_define : {f : FieldName} {d : Definition} → x ≡ Define f d → (n : ℕ) → unpacked n ≡ d
      → p ≡ to → ds ≡ set r.definitions f.0 d → ss ≡ r.saved → ps ≡ r.calls → fs ≡ set fields f.0 n → y ≡ x → Turned x to c r y p ds ss ps fs
  unfolding place_after records_after
  turned_define {f} e n is at d s k fields_are same =
      record {
        same = same;
        place = rw e at;
        records = rw (e, d, s, k);
        packed = rw (fields_are, d) (unpacked_set fields f.0 n ∙ rw (was, is));
        long = ap length k;
      }

  pub turned_save : {f : FieldName} → x ≡ SaveDefinition f
      → p ≡ to → ds ≡ r.definitions → ss ≡ set r.saved c.saved (get_or r.definitions f.0 undefined) → ps ≡ r.calls → fs ≡ fields → y ≡ x
      → Turned x to c r y p ds ss ps fs
  unfolding place_after records_after
  turned_save e at d s k f same =
      record { same = same; place = rw e at; records = rw (e, d, s, k); packed = rw (f, d) was; long = ap length k }

  pub turned_restore : {f : FieldName} → x ≡ RestoreDefinition f → (n : ℕ) → unpacked n ≡ get_or r.saved (c.saved - 1) undefined
      → p ≡ to → ds ≡ set r.definitions f.0 (get_or r.saved (c.saved - 1) undefined) → ss ≡ r.saved → ps ≡ r.calls → fs ≡ set fields f.0 n → y ≡ x
      → Turned x to c r y p ds ss ps fs
  unfolding place_after records_after
  turned_restore {f} e n is at d s k fields_are same =
      record {
        same = same;
        place = rw e at;
        records = rw (e, d, s, k);
        packed = rw (fields_are, d) (unpacked_set fields f.0 n ∙ rw (was, is));
        long = ap length k;
      }

  pub turned_call : {row : ℕ} → x ≡ Call row
      → p ≡ tests_of row → ds ≡ r.definitions → ss ≡ r.saved → ps ≡ set r.calls c.calls to → fs ≡ fields → y ≡ x → Turned x to c r y p ds ss ps fs
  unfolding place_after records_after
  turned_call e at d s k f same =
      record { same = same; place = rw e at; records = rw (e, d, s, k); packed = rw (f, d) was; long = ap length k ∙ length-set r.calls c.calls to }

  pub turned_return : x ≡ Return
      → p ≡ get_or r.calls (c.calls - 1) the_end → ds ≡ r.definitions → ss ≡ r.saved → ps ≡ r.calls → fs ≡ fields → y ≡ x → Turned x to c r y p ds ss ps fs
  unfolding place_after records_after
  turned_return e at d s k f same =
      record { same = same; place = rw e at; records = rw (e, d, s, k); packed = rw (f, d) was; long = ap length k }

-- a store's part in a report
module _ {at : Location} (v : ℕ) where
  pub to_bug : {x : BugLetter} → at ≡ Bug x → {s : stores.Store} → s ≡ no_store_of → s ≡ store_to at v
  unfolding store_to
  to_bug e is = rw e is

  module _ {address left right : ℕ} (e : at ≡ Field address left right) {w : ℕ} (wide : w ≡ width left right) where
    pub to_null : w ≡ 0 → {s : stores.Store} → s ≡ no_store_of → s ≡ store_to at v
    unfolding store_to
    to_null z is = rw (e, eq-eqb (width left right) 0 (sym wide ∙ z)) is

    pub to_field : (w ≡ 0 → ⊥) → {bits : ℕ} → bits ≡ kept left right v
        → ◌≡◌ {A = stores.Store} (record { address = address; left = left; right = right; bits = bits }) (store_to at v)
    unfolding store_to
    to_field some is = rw (e, ne_eqb (width left right) 0 (λ z. some (wide ∙ z)), is)

  pub field_short : {address left right : ℕ} → at ≡ Field address left right → Short at → right < 63
  unfolding Short
  field_short e h = subst Short e h

-- the stores that an action reports
module _ {x : Deed} (h : Reportable x) where
  pub store_short : {at : Location} {v : ℕ} → x ≡ Store at v → Short at
  unfolding Reportable
  store_short e = subst Reportable e h

  pub two_short : {a c : Location} {v y : ℕ} → x ≡ StoreTwo a v c y → Short a × Short c
  unfolding Reportable
  two_short e = subst Reportable e h

  pub deliver_short : {address n from : ℕ} {a : Location} → x ≡ Deliver address n from a → Short a
  unfolding Reportable
  deliver_short e = subst Reportable e h

  pub deliver_two_short : {address n v : ℕ} {a a2 : Location} → x ≡ DeliverTwo address n a a2 v → Short a × Short a2
  unfolding Reportable
  deliver_two_short e = subst Reportable e h

  pub free_short : {address v : ℕ} {at : Location} → x ≡ Free address at v → Short at
  unfolding Reportable
  free_short e = subst Reportable e h

  pub input_short : {v n : ℕ} {at : Location} → x ≡ Input at v n → Short at
  unfolding Reportable
  input_short e = subst Reportable e h

  pub restore_short : {v : ℕ} {at : Location} → x ≡ Restore at v → Short at
  unfolding Reportable
  restore_short e = subst Reportable e h

-- what can be carried out can be reported
reached_short : (b s1 : ℕ) (ws : List ℕ) (at : Location) → b ≤ 48 → Reached b s1 ws at → Short at
unfolding Reached Short
reached_short b s1 ws (Bug x) w h = tt
reached_short b s1 ws (Field address left right) w h = omega (arith, h.0)

pub feasible_reportable : (b : ℕ) (g : Ground) (x : Deed) → b ≤ 48 → Feasible b g x → Reportable x
unfolding Feasible Reportable
feasible_reportable b g Nothing w h = tt
feasible_reportable b g (Store at v) w h = reached_short b _ _ at w h
feasible_reportable b g (StoreTwo a v c x) w h = (reached_short b _ _ a w h.0, reached_short b _ _ c w h.1)
feasible_reportable b g (SetUpWords u) w h = tt
feasible_reportable b g (Define f x) w h = tt
feasible_reportable b g (Deliver address n from a) w h = reached_short b _ _ a w h.2
feasible_reportable b g (DeliverTwo address n a a2 v) w h = (reached_short b _ _ a w h.1, reached_short b _ _ a2 w h.2)
feasible_reportable b g (Free address at v) w h = reached_short b _ _ at w h.0
feasible_reportable b g (Input at v n) w h = reached_short b _ _ at w h.0
feasible_reportable b g (Print n width v) w h = tt
feasible_reportable b g (Save v) w h = tt
feasible_reportable b g (Restore at v) w h = reached_short b _ _ at w h.0
feasible_reportable b g (SaveDefinition f) w h = tt
feasible_reportable b g (RestoreDefinition f) w h = tt
feasible_reportable b g (Call row) w h = tt
feasible_reportable b g Return w h = tt

-- after a set-up, what can be carried out stores nothing at address zero
reached_not_null : (b s1 : ℕ) (ws : List ℕ) (at : Location) → 0 < s1 → Reached b s1 ws at → NotNull at
unfolding Reached NotNull
reached_not_null b s1 ws (Bug x) p h = tt
reached_not_null b s1 ws (Field address left right) p h = omega (arith, h.1)

pub feasible_sure : (b : ℕ) (g : Ground) (x : Deed) → 0 < g.setup.s1 → Feasible b g x → Sure x
unfolding Feasible Sure
feasible_sure b g Nothing p h = tt
feasible_sure b g (Store at v) p h = reached_not_null b _ _ at p h
feasible_sure b g (StoreTwo a v c x) p h = (reached_not_null b _ _ a p h.0, reached_not_null b _ _ c p h.1)
feasible_sure b g (SetUpWords u) p h = tt
feasible_sure b g (Define f x) p h = tt
feasible_sure b g (Deliver address n from a) p h = reached_not_null b _ _ a p h.2
feasible_sure b g (DeliverTwo address n a a2 v) p h = (reached_not_null b _ _ a p h.1, reached_not_null b _ _ a2 p h.2)
feasible_sure b g (Free address at v) p h = reached_not_null b _ _ at p h.0
feasible_sure b g (Input at v n) p h = reached_not_null b _ _ at p h.0
feasible_sure b g (Print n width v) p h = tt
feasible_sure b g (Save v) p h = tt
feasible_sure b g (Restore at v) p h = reached_not_null b _ _ at p h.0
feasible_sure b g (SaveDefinition f) p h = tt
feasible_sure b g (RestoreDefinition f) p h = tt
feasible_sure b g (Call row) p h = tt
feasible_sure b g Return p h = tt
