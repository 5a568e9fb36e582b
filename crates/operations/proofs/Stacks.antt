-- What the operations on the three stacks plan, by the checks that led there. Assumes nothing.
use Prim.Native.Nat.{ℕ, ◌-◌, ◌≤◌, ◌<◌}
use native.Mathlib.Omega.{arith}
use mathlib.Core.List.{List}
use mathlib.Core.Path.{◌≡◌, ◌∙◌}
use borrow.Author.Tests.{eq-eqb, ne_eqb, lt-ltb, le-ltb}
use lib.Dec.{ltb}
use lib.ListN.{get_or}
use Rattle.table.specs.declared.Row.{Row}
use Rattle.machine.specs.declared.Location.{Location}
use Rattle.machine.specs.declared.Refusal.TheVariants.{StackFull, StackEmpty}
use Rattle.machine.specs.Answer.{refused, passed, ◌>>◌, need}
use Rattle.machine.specs.Locate.{World, contents, locate}
use Rattle.machine.proofs.Checks.{need_yes, need_no, bind_yes, cond_yes, cond_no}
use Rattle.operations.specs.Deeds.{Save, Restore, SaveDefinition, RestoreDefinition, Call}
use Rattle.operations.specs.Plans.{name_of, contents_plan, record_plan}

-- 32 and 33, once a is located
module _ (b : ℕ) (w : World) (count : ℕ) (entries : List ℕ) (row : Row) {a : Location} (k : locate b w row.first ≡ passed a) where
  module _ (save : row.code ≡ 32) where
    to_save : contents_plan b w count entries row ≡ (need (ltb count 128) StackFull >> passed (Save (contents b w a)))
    unfolding contents_plan
    to_save = bind_yes _ _ k ∙ cond_yes _ _ _ (eq-eqb _ _ save)

    pub save_full : 128 ≤ count → contents_plan b w count entries row ≡ refused StackFull
    save_full full = to_save ∙ need_no _ _ _ (le-ltb count 128 full)

    pub save_done : count < 128 → {v : ℕ} → v ≡ contents b w a → contents_plan b w count entries row ≡ passed (Save v)
    save_done room is = to_save ∙ need_yes _ _ _ (lt-ltb count 128 room) ∙ rw is

  module _ (restore : row.code ≡ 32 → ⊥) where
    to_restore : contents_plan b w count entries row ≡ (need (ltb 0 count) StackEmpty >> passed (Restore a (get_or entries (count - 1) 0)))
    unfolding contents_plan
    to_restore = bind_yes _ _ k ∙ cond_no _ _ _ (ne_eqb _ _ restore)

    pub restore_empty : count ≡ 0 → contents_plan b w count entries row ≡ refused StackEmpty
    restore_empty none = to_restore ∙ need_no _ _ _ (le-ltb 0 count (omega arith))

    pub restore_done : (count ≡ 0 → ⊥) → contents_plan b w count entries row ≡ passed (Restore a (get_or entries (count - 1) 0))
    restore_done some = to_restore ∙ need_yes _ _ _ (lt-ltb 0 count (omega arith))

-- 34 to 36
module _ (saved calls : ℕ) (row : Row) where
  module _ (save : row.code ≡ 34) where
    to_save_definition : record_plan saved calls row ≡ (need (ltb saved 128) StackFull >> passed (SaveDefinition (name_of row)))
    unfolding record_plan
    to_save_definition = cond_yes _ _ _ (eq-eqb _ _ save)

    pub save_definition_full : 128 ≤ saved → record_plan saved calls row ≡ refused StackFull
    save_definition_full full = to_save_definition ∙ need_no _ _ _ (le-ltb saved 128 full)

    pub save_definition_lem : saved < 128 → record_plan saved calls row ≡ passed (SaveDefinition (name_of row))
    save_definition_lem room = to_save_definition ∙ need_yes _ _ _ (lt-ltb saved 128 room)

  module _ (other : row.code ≡ 34 → ⊥) where
    module _ (restore : row.code ≡ 35) where
      to_restore_definition : record_plan saved calls row ≡ (need (ltb 0 saved) StackEmpty >> passed (RestoreDefinition (name_of row)))
      unfolding record_plan
      to_restore_definition = cond_no _ _ _ (ne_eqb _ _ other) ∙ cond_yes _ _ _ (eq-eqb _ _ restore)

      pub restore_definition_empty : saved ≡ 0 → record_plan saved calls row ≡ refused StackEmpty
      restore_definition_empty none = to_restore_definition ∙ need_no _ _ _ (le-ltb 0 saved (omega arith))

      pub restore_definition_lem : (saved ≡ 0 → ⊥) → record_plan saved calls row ≡ passed (RestoreDefinition (name_of row))
      restore_definition_lem some = to_restore_definition ∙ need_yes _ _ _ (lt-ltb 0 saved (omega arith))

    module _ (neither : row.code ≡ 35 → ⊥) where
      to_call : record_plan saved calls row ≡ (need (ltb calls 128) StackFull >> passed (Call row.first.value))
      unfolding record_plan
      to_call = cond_no _ _ _ (ne_eqb _ _ other) ∙ cond_no _ _ _ (ne_eqb _ _ neither)

      pub call_full : 128 ≤ calls → record_plan saved calls row ≡ refused StackFull
      call_full full = to_call ∙ need_no _ _ _ (le-ltb calls 128 full)

      pub call : calls < 128 → record_plan saved calls row ≡ passed (Call row.first.value)
      call room = to_call ∙ need_yes _ _ _ (lt-ltb calls 128 room)
