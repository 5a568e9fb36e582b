-- A step of a table that gets a yes, from an engine that stands on a path: it is not refused by 14, and the engine stands on a path again.
-- Assumes nothing.
use Prim.Native.Nat.{ℕ, suc, ◌-◌, ◌≤◌, ◌<◌}
use native.Mathlib.Omega.{arith}
use mathlib.Core.Bool.{Bool, true, false, cond}
use mathlib.Core.List.{List}
use mathlib.Core.Path.{◌≡◌, refl, ap, sym, subst, ◌∙◌}
use borrow.Author.Tests.{eqb-true, eqb-false, eq-eqb, ne_eqb, ltb-true, leb-true}
use lib.Dec.{eqb, leb}
use lib.ListN.{set, length, length-set}
use Rattle.word.proofs.Tests.{and_true as and_parts}
use Rattle.table.specs.declared.Row.{Row}
use Rattle.table.specs.Row.{length_fits, rows, row_at, first_test, first_operation, go_to_of, done}
use Rattle.table.specs.Table.{usable, shaped, is_operation, fit_pairs, shape_of, largest_name}
use Rattle.machine.specs.declared.Answer.TheVariants.{Running, Finished, Refused}
use Rattle.machine.specs.declared.Definition.{Definition}
use Rattle.machine.specs.declared.Place.{Place}
use Rattle.machine.specs.declared.Refusal.TheVariants.{TableLength, BadRow, Unsound, BeforeSetUp, SecondSetUp, StackEmpty}
use Rattle.machine.specs.declared.Refusal.TheVariants.{UndefinedField}
use Rattle.machine.specs.Answer.{Checked, refused, passed, ◌>>◌, need, refusal_number}
use Rattle.machine.specs.State.{tests_of, moved_to, with_definition, with_calls, on_core, is_finished}
use Rattle.machine.specs.Sound.{Lent, Engine, sound}
use Rattle.machine.specs.Locate.{world}
use Rattle.machine.specs.Test.{satisfied as settled}
use Rattle.machine.specs.Effects.{Effects, quietly}
use Rattle.machine.specs.Operations.{meaning, the_name}
use Rattle.machine.specs.Step.{next_line as next_line_of, operation_or_exit, going_to, tests_step, in_turn, given, operation_step, return}
use Rattle.machine.specs.Step.{exit_step, plan, Outcome, unchanged, carried_out, outcome, step_at, step, engine_of}
use Rattle.machine.proofs.Steps.{by_width}
use Rattle.machine.proofs.Checks.{clash, need_passed, bind_passed, then_passed, passed_same}
use Rattle.defined.specs.Paths.{line, operation, exit, InChain, first, further, after_do, to_tests, no_tests}
use Rattle.defined.specs.Paths.{satisfied, otherwise, doing, next_operation, going, next_line, returning, Fields}
use Rattle.defined.specs.Paths.{after, passing, Path, along, at_operation as at_operation_row}
use Rattle.defined.specs.Paths.{SomeUse}
use Rattle.defined.proofs.Refers.{row_refers}
use Rattle.defined.proofs.Safe.{Safe, Known, safe_passed, safe_when, safe_need, safe_bind, safe_cond}
use Rattle.defined.proofs.Changes.{Change, keeps, defines, restores, does}
use Rattle.defined.proofs.Codes.{meaning_right}
use Rattle.defined.proofs.Standing.{Covers, Standing, ended, at_line, at_operation, at_exit, OnPath, kept_on_path}
use Rattle.defined.proofs.Standing.{at_operation_or_exit, at_next_line, plain_parts, other_covers, defined_covers}
use Rattle.defined.proofs.Standing.{restored_covers, pushed}
use Rattle.defined.proofs.Testing.{usable_parts, then_line, then_holds, named_below, safe_then, safe_alone, used_defined, tests_safe}

-- one step of an engine that stands on a path of the table that is lent
module _ (b : ℕ) (l : Lent) (none : SomeUse l.table → ⊥) (e : Engine) (h : OnPath l.table e.state.core) where
  abbrev Right : Checked Effects → Type 0
  Right m = Safe m × ((x : Effects) → m ≡ passed x → OnPath l.table x.state.core)

  abbrev n : ℕ
  n = e.state.core.place.line

  abbrev r : ℕ
  r = e.state.core.place.row

  abbrev ds : List Definition
  ds = e.state.core.definitions

  -- going on to a place
  goes : (p : Place) → Standing l.table ds p → OnPath l.table (going_to p e).state.core
  unfolding going_to quietly on_core moved_to
  goes p s = record { standing = s; names = h.names; room = h.room; saved = h.saved }

  -- a line whose tests are there leads on either way, and one that has none to its operations
  module _ (fields : Fields) (p : Path l.table (line n) fields) (covers : Covers fields ds) (u : usable 1 b l.table n ≡ true) where
    abbrev row : Row
    row = row_at l.table n

    chain : (first_operation row ≡ 0 → ⊥) → InChain l.table n (first_operation row)
    chain some = let (low, high, kind, _) = usable_parts 1 b l.table n u in first low high kind some

    with_tests : (first_test row ≡ 0 → ⊥) → (holds : Bool)
        → Standing l.table ds (cond holds (operation_or_exit (first_operation row) n) (next_line_of row.next))
    unfolding passing
    with_tests some true = at_operation_or_exit l.table ds _ n fields (along (along p (to_tests some)) (satisfied {t = first_test row})) chain covers
    with_tests some false = at_next_line l.table ds _ fields (λ there. along (along p (to_tests some)) (otherwise {t = first_test row} there)) covers

    no_tests_lem : first_test row ≡ 0 → (count : ℕ) (holds : Bool) → settled b l.table (world e) row.code count (first_test row) ≡ passed holds
        → Standing l.table ds (cond holds (operation_or_exit (first_operation row) n) (next_line_of row.next))
    unfolding passing shaped
    no_tests_lem z count holds k =
        let (_, _, _, shape) = usable_parts 1 b l.table n u in
        let code = then_line (rows l.table) row shape z in
        let k₁ : settled b l.table (world e) 0 count 0 ≡ passed holds = rw (code, z) at k in
        subst (λ t. Standing l.table ds (cond t (operation_or_exit (first_operation row) n) (next_line_of row.next)))
        (then_holds b l.table (world e) count holds k₁)
        (at_operation_or_exit l.table ds _ n fields (along p (no_tests z)) chain covers)

    tests_standing : (holds : Bool) → settled b l.table (world e) row.code (rows l.table) (first_test row) ≡ passed holds
        → Standing l.table ds (cond holds (operation_or_exit (first_operation row) n) (next_line_of row.next))
    tests_standing holds k =
        elim (eqb (first_test row) 0) as (λ t. eqb (first_test row) 0 ≡ t
        → Standing l.table ds (cond holds (operation_or_exit (first_operation row) n) (next_line_of row.next))) [
          | true ↦ λ z. no_tests_lem (eqb-true _ _ z) (rows l.table) holds k
          | false ↦ λ z. with_tests (eqb-false _ _ z) holds
        ] refl

  tests_right : (fields : Fields) → Path l.table (line n) fields → Covers fields ds → Right (tests_step b l e)
  unfolding tests_step refusal_number passing world
  tests_right fields p covers = (
    safe_when _ BadRow _ refl
        (λ u. safe_bind _ _
        (tests_safe l.table none b (world e) n fields covers _ (rows l.table) _ (λ some. along p (to_tests some)))
        (λ _ _. safe_passed _)),
    λ x k.
        let (u, k₁) = need_passed _ _ _ k in
        let (holds, k₂, k₃) = bind_passed _ _ k₁ in
        subst (λ (x : Effects). OnPath l.table x.state.core) (passed_same k₃) (goes _ (tests_standing fields p covers u holds k₂)),
  )

  -- at a line's exit
  return_right : (fields : Fields) → Path l.table (exit n) fields → Covers fields ds → go_to_of (row_at l.table n) ≡ done → Right (return e)
  unfolding return quietly on_core moved_to with_calls passing refusal_number
  return_right fields p covers g = (
    safe_need _ StackEmpty _ refl (safe_passed _),
    λ x k.
        let (some, k₁) = need_passed _ _ _ k in
        let top : 0 < e.state.core.calls.count = ltb-true _ _ some in
        let a = h.saved (e.state.core.calls.count - 1) (omega arith) in
        subst (λ (x : Effects). OnPath l.table x.state.core) (passed_same k₁)
        (record {
          standing = subst (Standing l.table ds) (sym a.is)
              (at_operation_or_exit l.table ds _ a.line fields (along p (returning g (after_do a.in_chain a.is_do)))
              (λ there. further a.in_chain there) covers);
          names = h.names;
          room = h.room;
          saved = λ i less. h.saved i (omega arith);
        }),
  )

  -- where an exit that is no DONE goes
  exit_standing : (fields : Fields) → Path l.table (exit n) fields → Covers fields ds → (go_to_of (row_at l.table n) ≡ done → ⊥)
      → Standing l.table ds (cond (eqb (go_to_of (row_at l.table n)) 0) (next_line_of (row_at l.table n).next) (tests_of (go_to_of (row_at l.table n))))
  unfolding passing tests_of
  exit_standing fields p covers other =
      let row = row_at l.table n in
      elim (eqb (go_to_of row) 0) as (λ t. eqb (go_to_of row) 0 ≡ t → Standing l.table ds (cond t (next_line_of row.next) (tests_of (go_to_of row)))) [
        | true ↦ λ z. at_next_line l.table ds _ fields (λ some. along p (next_line (eqb-true _ _ z) some)) covers
        | false ↦ λ z. at_line refl fields (along p (going other (eqb-false _ _ z))) covers
      ] refl

  exit_right : (fields : Fields) → Path l.table (exit n) fields → Covers fields ds → Right (exit_step b l e)
  unfolding exit_step refusal_number
  exit_right fields p covers =
      let row = row_at l.table n in (
        safe_need _ BadRow _ refl (safe_cond (eqb (go_to_of row) done) _ _ (λ g. (return_right fields p covers (eqb-true _ _ g)).0) (λ _. safe_passed _)),
        λ x k.
            let (u, k₁) = need_passed _ _ _ k in
            elim (eqb (go_to_of row) done) as (λ t. eqb (go_to_of row) done ≡ t
            → cond t (return e) (passed (going_to (cond (eqb (go_to_of row) 0) (next_line_of row.next) (tests_of (go_to_of row))) e)) ≡ passed x
            → OnPath l.table x.state.core) [
              | true ↦ λ g m. (return_right fields p covers (eqb-true _ _ g)).1 x m
              | false ↦ λ g m. subst (λ (x : Effects). OnPath l.table x.state.core) (passed_same m)
                  (goes _ (exit_standing fields p covers (eqb-false _ _ g)))
            ] refl k₁,
      )

  -- at an operation
  module _ (fields : Fields) (p : Path l.table (operation r n) fields) (in_chain : InChain l.table n r) (covers : Covers fields ds)
      (u : usable 3 b l.table r ≡ true) where
    abbrev operation_row : Row
    operation_row = row_at l.table r

    -- the row's code, name and pairs
    operation_formed : (1 ≤ operation_row.code) × (operation_row.code ≤ 36) × (operation_row.code ≡ 2 → operation_row.name < 36)
        × (fit_pairs b (rows l.table) (shape_of operation_row.code) operation_row ≡ true)
    unfolding shaped is_operation
    operation_formed =
        let (_, _, _, shape) = usable_parts 3 b l.table r u in
        let (low, k₁) = and_parts (leb 1 operation_row.code) _ shape in
        let (high, k₂) = and_parts (leb operation_row.code 36) _ k₁ in
        let (name, pairs) = and_parts (leb operation_row.name (largest_name (shape_of operation_row.code).named))
        (fit_pairs b (rows l.table) (shape_of operation_row.code) operation_row) k₂ in
        (leb-true _ _ low, leb-true _ _ high, λ c. named_below operation_row c name, pairs)

    -- what a DO leaves
    does_on_path : operation_row.code ≡ 36 → e.state.core.calls.count < 128
        → OnPath l.table (moved_to (tests_of operation_row.first.value)
        (with_calls (record {
          entries = set e.state.core.calls.entries e.state.core.calls.count (operation_or_exit operation_row.next n);
          count = suc e.state.core.calls.count;
        }) e.state.core))
    unfolding moved_to with_calls tests_of passing
    does_on_path c less =
        let inside : e.state.core.calls.count < length e.state.core.calls.entries = rw h.room less in
        record {
          standing = at_line refl (after operation_row fields) (along p (doing c))
              (other_covers operation_row fields ds covers (λ q. omega arith) (λ q. omega arith));
          names = h.names;
          room = length-set e.state.core.calls.entries _ _ ∙ h.room;
          saved = pushed l.table e.state.core.calls.entries e.state.core.calls.count _ inside h.saved
              (record { line = n; row = r; in_chain = in_chain; is_do = c; is = refl });
        }

    -- what any operation leaves
    changed : (x : Effects) → Change (given l e) x → OnPath l.table x.state.core
    unfolding given on_core moved_to with_calls with_definition the_name passing
    changed x (keeps k same) =
        let (o, q, d) = plain_parts operation_row.code k in
        kept_on_path l.table _ _ same
        (record {
          standing = at_operation_or_exit l.table ds _ n (after operation_row fields) (along p (next_operation d)) (λ there. further in_chain there)
              (other_covers operation_row fields ds covers o q);
          names = h.names;
          room = h.room;
          saved = h.saved;
        })
    changed x (defines c d is same) =
        let (_, _, below, _) = operation_formed in
        let inside : operation_row.name < length ds = rw h.names (below c) in
        kept_on_path l.table _ _ same
        (record {
          standing = at_operation_or_exit l.table _ _ n (after operation_row fields) (along p (next_operation (λ q. omega arith)))
              (λ there. further in_chain there)
              (defined_covers operation_row fields ds covers c d is inside);
          names = length-set ds _ _ ∙ h.names;
          room = h.room;
          saved = h.saved;
        })
    changed x (restores c d same) =
        kept_on_path l.table _ _ same
        (record {
          standing = at_operation_or_exit l.table _ _ n (after operation_row fields) (along p (next_operation (λ q. omega arith)))
              (λ there. further in_chain there)
              (restored_covers operation_row fields ds covers c d);
          names = length-set ds _ _ ∙ h.names;
          room = h.room;
          saved = h.saved;
        })
    changed x (does c room same) = kept_on_path l.table _ _ same (does_on_path c room)

    known : Known (given l e).engine.state.core.definitions (row_refers (given l e).row)
    unfolding given on_core moved_to
    known m used = covers m (used_defined l.table none (operation r n) r fields at_operation_row p m used)

    meaning_on_path : Right (meaning (row_at l.table r).code b (given l e))
    unfolding given on_core moved_to
    meaning_on_path =
        let (low, high, _, pairs) = operation_formed in
        let m = meaning_right b (rows l.table) (given l e) known pairs low high in
        (m.0, λ x k. changed x (m.1 x k))

  turn_safe : (code : ℕ) → Safe (in_turn code e)
  unfolding in_turn refusal_number
  turn_safe code = safe_cond (eqb code 1) _ _ (λ _. safe_alone _ SecondSetUp refl) (λ _. safe_alone _ BeforeSetUp refl)

  operation_right : (fields : Fields) → Path l.table (operation r n) fields → InChain l.table n r → Covers fields ds → Right (operation_step b l e)
  unfolding operation_step refusal_number
  operation_right fields p in_chain covers = (
    safe_when _ BadRow _ refl (λ u. safe_then _ _ (turn_safe _) (meaning_on_path fields p in_chain covers u).0),
    λ x k.
        let (u, k₁) = need_passed _ _ _ k in
        let (_, _, k₂) = then_passed _ _ k₁ in
        (meaning_on_path fields p in_chain covers u).1 x k₂,
  )

  -- the plan of a step of an engine that is not finished
  plan_right : is_finished e.state.core.place ≡ false → Right (plan b l e)
  unfolding plan is_finished refusal_number
  plan_right f = go h.standing
    where
      kind : ℕ
      kind = e.state.core.place.kind

      whole : (m : Checked Effects) → cond (eqb kind 0) (tests_step b l e) (cond (eqb kind 1) (operation_step b l e) (exit_step b l e)) ≡ m → Right m
          → Right (need (length_fits l.table) TableLength >> cond (eqb kind 0) (tests_step b l e) (cond (eqb kind 1) (operation_step b l e) (exit_step b l e)))
      whole m is right = rw is (safe_need _ TableLength _ refl right.0, λ x k. right.1 x (need_passed _ _ _ k).1)

      go : Standing l.table ds e.state.core.place → Right (plan b l e)
      go (ended k) = clash (sym f ∙ eq-eqb kind 3 k)
      go (at_line k fields p covers) = whole (tests_step b l e) (rw (eq-eqb kind 0 k)) (tests_right fields p covers)
      go (at_operation k fields p in_chain covers) =
          whole (operation_step b l e) (rw (ne_eqb kind 0 (λ q. omega arith), eq-eqb kind 1 k)) (operation_right fields p in_chain covers)
      go (at_exit k fields p covers) =
          whole (exit_step b l e) (rw (ne_eqb kind 0 (λ q. omega arith), ne_eqb kind 1 (λ q. omega arith))) (exit_right fields p covers)

  -- an outcome that is not refused by 14 and is still on a path
  abbrev Fine : Outcome → Type 0
  Fine o = (o.stepped.answer ≡ Refused UndefinedField → ⊥) × OnPath l.table (engine_of o).state.core

  planned_fine : (m : Checked Effects) → Right m → Fine (outcome b m l e)
  unfolding outcome unchanged carried_out engine_of
  planned_fine (refused q) right = (λ k. right.0 (ap refused (same k)), h)
    where
      same : Refused q ≡ Refused UndefinedField → q ≡ UndefinedField
      same k = cc
  planned_fine (passed x) right = (never_refused (is_finished x.state.core.place), right.1 x refl)
    where
      never_refused : (t : Bool) → cond t Finished Running ≡ Refused UndefinedField → ⊥
      never_refused true k = let never : ◌≡◌ {A = ℕ} 0 1 = cc in omega arith
      never_refused false k = let never : ◌≡◌ {A = ℕ} 0 1 = cc in omega arith

  -- the whole step: not refused by 14, and still on a path
  step_right_at : Fine (step_at b l e)
  unfolding step_at unchanged engine_of refusal_number
  step_right_at =
      elim (sound b l e) as (λ t. Fine (cond t (cond (is_finished e.state.core.place) (unchanged Finished l e) (outcome b (plan b l e) l e))
      (unchanged (Refused Unsound) l e))) [
        | true ↦ elim (is_finished e.state.core.place) as
            (λ t. is_finished e.state.core.place ≡ t → Fine (cond t (unchanged Finished l e) (outcome b (plan b l e) l e)))
            [ true ↦ λ f. (λ k. let never : ◌≡◌ {A = ℕ} 0 1 = cc in omega arith, h) | false ↦ λ f. planned_fine (plan b l e) (plan_right f) ] refl
        | false ↦ (λ k. let never : ◌≡◌ {A = ℕ} 0 1 = cc in omega arith, h)
      ]

pub step_right : (l : Lent) → (SomeUse l.table → ⊥) → (e : Engine) → OnPath l.table e.state.core
    → ((step l e).stepped.answer ≡ Refused UndefinedField → ⊥) × OnPath l.table (engine_of (step l e)).state.core
unfolding unchanged engine_of
step_right l none e h =
    by_width l e (λ o. (o.stepped.answer ≡ Refused UndefinedField → ⊥) × OnPath l.table (engine_of o).state.core)
    (λ _. step_right_at e.state.width l none e h) (λ _. (λ k. let never : ◌≡◌ {A = ℕ} 0 1 = cc in omega arith, h))
