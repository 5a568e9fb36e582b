-- What an operation does to the definitions, the calls and the place, and that it is never refused by 14 where every field that its
-- row refers to is defined.
-- Assumes nothing.
use Prim.Native.Nat.{ℕ, suc, ◌<◌}
use mathlib.Core.Bool.{Bool, true, false, not, ◌&&◌, cond}
use mathlib.Core.List.{List, [], ◌∷◌}
use mathlib.Core.Logic.{⊎_elim}
use mathlib.Core.Path.{◌≡◌, refl, sym, subst, ◌∙◌}
use borrow.Author.Tests.{eqb-true, ltb-true}
use lib.Dec.{eqb}
use lib.ListN.{set}
use Rattle.word.proofs.Tests.{and_true as and_parts}
use Rattle.table.specs.declared.Operand.TheVariants.{Either, ReferenceOrAbsent, ReferenceOrZero}
use Rattle.table.specs.declared.Pair.{Pair}
use Rattle.table.specs.declared.Row.{Row}
use Rattle.table.specs.Operands.{takes, is_literal, is_ref, is_absent, is_zero}
use Rattle.machine.specs.declared.Core.{Core}
use Rattle.machine.specs.declared.Definition.{Definition}
use Rattle.machine.specs.declared.Location.{Location}
use Rattle.machine.specs.declared.Location.TheVariants.{Bug, Field}
use Rattle.machine.specs.declared.Refusal.TheVariants.{SetUpNumbers, InputByte, InputShort, DefinitionNumber, BlockSize}
use Rattle.machine.specs.declared.Refusal.TheVariants.{CharacterCount, NotABlock, NoRun, FieldFreed, StackFull, StackEmpty}
use Rattle.machine.specs.declared.Refusal.TheVariants.{OutputFull}
use Rattle.machine.specs.Answer.{Checked, passed, ◌>>=◌, refusal_number}
use Rattle.machine.specs.State.{tests_of, moved_to, with_bug, with_definition, with_contents, with_saved, with_calls, with_set_up, with_taken}
use Rattle.machine.specs.State.{with_written, on_core, with_map}
use Rattle.machine.specs.Locate.{World, world, Value, locate, operand}
use Rattle.machine.specs.Effects.{Effects, quietly, reporting, assigned, storing, engine_after}
use Rattle.machine.specs.Operations.{Given, set_up, the_name, define, first_run_of, lowest_run, delivering, and_storing, get_wants, get}
use Rattle.machine.specs.Operations.{free, duplicate_wants, duplicate, interchange, computing, input, print, save_contents}
use Rattle.machine.specs.Operations.{restore_contents, save_definition, restore_definition, do_line}
use Rattle.machine.proofs.Checks.{need_passed, bind_passed, passed_same, or_parts, clash}
use Rattle.defined.proofs.Refers.{refers_to, row_refers, first_refers, second_refers, third_refers}
use Rattle.defined.proofs.Safe.{Safe, Known, other_refusal, safe_passed, safe_need, safe_bind, safe_cond, locate_safe}
use Rattle.defined.proofs.Safe.{operand_safe}

-- the same definitions, calls and place
pub record Kept (c d : Core) : Type 0 where
  pub definitions : d.definitions ≡ c.definitions
  pub calls : d.calls ≡ c.calls
  pub place : d.place ≡ c.place

kept_refl : {c : Core} → Kept c c
kept_refl = record { definitions = refl; calls = refl; place = refl }

kept_trans : {c d e : Core} → Kept c d → Kept d e → Kept c e
kept_trans h k = record { definitions = k.definitions ∙ h.definitions; calls = k.calls ∙ h.calls; place = k.place ∙ h.place }

assigned_kept : (b : ℕ) (at : Location) (v : ℕ) (c : Core) → Kept c (assigned b at v c)
unfolding assigned with_bug
assigned_kept b (Bug x) v c = record { definitions = refl; calls = refl; place = refl }
assigned_kept b (Field address left right) v c = kept_refl

-- a code that is no definition (2), restore of a definition (35) or DO (36)
abbrev pub plain : ℕ → Bool
plain code = not (eqb code 2) && (not (eqb code 35) && not (eqb code 36))

-- what an operation that is not refused changes
pub data Change (g : Given) (x : Effects) : Type 0 where
  keeps : plain g.row.code ≡ true → Kept g.engine.state.core x.state.core → Change g x
  defines : g.row.code ≡ 2 → (d : Definition) → d.defined ≡ true
      → Kept (with_definition (the_name g) d g.engine.state.core) x.state.core → Change g x
  restores : g.row.code ≡ 35 → (d : Definition)
      → Kept (with_definition (the_name g) d g.engine.state.core) x.state.core → Change g x
  does : g.row.code ≡ 36 → g.engine.state.core.calls.count < 128
      → Kept (moved_to (tests_of g.row.first.value)
      (with_calls (record {
        entries = set g.engine.state.core.calls.entries g.engine.state.core.calls.count g.engine.state.core.place;
        count = suc g.engine.state.core.calls.count;
      }) g.engine.state.core)) x.state.core → Change g x

-- the form of a pair that is a reference, or a literal or one, or optional
pub ref_form : (p : Pair) → is_ref p ≡ true → p.form ≡ 2
ref_form p h = eqb-true p.form 2 (and_parts _ _ h).0

pub either_form : (b rows : ℕ) (p : Pair) → takes b rows Either p ≡ true → eqb p.form 1 ≡ false → p.form ≡ 2
either_form b rows p h n =
    ⊎_elim (λ k. clash (sym n ∙ (and_parts (eqb p.form 1) _ k).0)) (λ k. ref_form p k) (or_parts (is_literal b p) (is_ref p) h)

zero_form : (b rows : ℕ) (p : Pair) → takes b rows ReferenceOrZero p ≡ true → eqb p.form 1 ≡ false → p.form ≡ 2
zero_form b rows p h n =
    ⊎_elim (λ k. ref_form p k) (λ k. clash (sym n ∙ (and_parts (eqb p.form 1) _ k).0)) (or_parts (is_ref p) (is_zero p) h)

absent_form : (b rows : ℕ) (p : Pair) → takes b rows ReferenceOrAbsent p ≡ true → eqb p.form 0 ≡ false → p.form ≡ 2
absent_form b rows p h n =
    ⊎_elim (λ k. ref_form p k) (λ k. clash (sym n ∙ (and_parts (eqb p.form 0) _ k).0)) (or_parts (is_ref p) (is_absent p) h)

-- every field that a row refers to, and so every field that one of its pairs refers to, is defined
first_known : (ds : List Definition) (row : Row) → Known ds (row_refers row) → Known ds (refers_to row.first)
first_known ds row k n h = k n (first_refers row n h)

second_known : (ds : List Definition) (row : Row) → Known ds (row_refers row) → Known ds (refers_to row.second)
second_known ds row k n h = k n (second_refers row n h)

third_known : (ds : List Definition) (row : Row) → Known ds (row_refers row) → Known ds (refers_to row.third)
third_known ds row k n h = k n (third_refers row n h)

module _ (b rows : ℕ) (g : Given) (known : Known g.engine.state.core.definitions (row_refers g.row)) where
  abbrev W : World
  W = world g.engine

  abbrev c : Core
  c = g.engine.state.core

  abbrev Right : Checked Effects → Type 0
  Right m = Safe m × ((x : Effects) → m ≡ passed x → Change g x)

  a_safe : (k : is_ref g.row.first ≡ true) → Safe (locate b W g.row.first)
  unfolding world
  a_safe k = locate_safe b W _ (ref_form _ k) (first_known c.definitions g.row known)

  a2_safe : (k : is_ref g.row.second ≡ true) → Safe (locate b W g.row.second)
  unfolding world
  a2_safe k = locate_safe b W _ (ref_form _ k) (second_known c.definitions g.row known)

  first_safe : (eqb g.row.first.form 1 ≡ false → g.row.first.form ≡ 2) → Safe (operand b W g.row.first)
  unfolding world
  first_safe k = operand_safe b W _ k (first_known c.definitions g.row known)

  second_safe : (eqb g.row.second.form 1 ≡ false → g.row.second.form ≡ 2) → Safe (operand b W g.row.second)
  unfolding world
  second_safe k = operand_safe b W _ k (second_known c.definitions g.row known)

  third_safe : (eqb g.row.third.form 1 ≡ false → g.row.third.form ≡ 2) → Safe (operand b W g.row.third)
  unfolding world
  third_safe k = operand_safe b W _ k (third_known c.definitions g.row known)

  -- one store over a core
  stored : plain g.row.code ≡ true → (a : Location) (v : ℕ) → Change g (storing b a v g.engine.state)
  unfolding storing reporting on_core
  stored p a v = keeps p (assigned_kept b a v c)

  -- an operation that computes: its own function is never refused by 14
  pub computing_right : plain g.row.code ≡ true → is_ref g.row.first ≡ true
      → (eqb g.row.second.form 1 ≡ false → g.row.second.form ≡ 2)
      → (f : ℕ → Value → Value → Checked ℕ) → ((x y : Value) → Safe (f b x y)) → Right (computing f b g)
  unfolding computing
  computing_right p k₁ k₂ f s = (
    safe_bind _ _ (a_safe k₁) (λ a _. safe_bind _ _ (second_safe k₂) (λ x _. safe_bind _ _ (s _ x) (λ v _. safe_passed _))),
    λ x k.
        let (a, _, k₂) = bind_passed _ _ k in
        let (_, _, k₄) = bind_passed _ _ k₂ in
        let (v, _, k₆) = bind_passed _ _ k₄ in
        subst (Change g) (passed_same k₆) (stored p a v),
  )

  pub set_up_right : plain g.row.code ≡ true → Right (set_up b g)
  unfolding set_up with_map on_core with_set_up refusal_number
  set_up_right p = (
    safe_need _ SetUpNumbers _ refl (safe_passed _),
    λ x k.
        let (_, k₁) = need_passed _ _ _ k in
        subst (Change g) (passed_same k₁) (keeps p (record { definitions = refl; calls = refl; place = refl })),
  )

  pub define_right : g.row.code ≡ 2 → takes b rows Either g.row.first ≡ true → takes b rows Either g.row.second ≡ true
      → takes b rows Either g.row.third ≡ true → Right (define b g)
  unfolding define quietly on_core refusal_number
  define_right p k₁ k₂ k₃ = (
    safe_bind _ _ (first_safe (either_form b rows _ k₁)) (λ _ _.
        safe_bind _ _ (second_safe (either_form b rows _ k₂)) (λ _ _.
        safe_bind _ _ (third_safe (either_form b rows _ k₃)) (λ _ _. safe_need _ DefinitionNumber _ refl (safe_passed _)))),
    λ x k.
        let (_, _, k₂) = bind_passed _ _ k in
        let (_, _, k₄) = bind_passed _ _ k₂ in
        let (_, _, k₆) = bind_passed _ _ k₄ in
        let (_, k₇) = need_passed _ _ _ k₆ in
        subst (Change g) (passed_same k₇) (defines p _ refl kept_refl),
  )

  run_safe : (rs : List ℕ) → Safe (first_run_of rs)
  unfolding first_run_of refusal_number
  run_safe [] = other_refusal NoRun refl
  run_safe (r ∷ rs) = safe_passed r

  delivering_kept : (w : Rattle.machine.specs.Operations.Wanted) (address : ℕ) → Kept c (delivering b w address g.engine.state).state.core
  unfolding delivering reporting with_map on_core
  delivering_kept w address = assigned_kept b w.a address c

  pub get_right : plain g.row.code ≡ true → is_ref g.row.first ≡ true → takes b rows Either g.row.second ≡ true
      → takes b rows ReferenceOrAbsent g.row.third ≡ true → Right (get b g)
  unfolding get get_wants lowest_run and_storing on_core engine_after world refusal_number
  get_right p k₁ k₂ k₃ = (
    safe_bind _ _ (safe_bind _ _ (a_safe k₁) (λ _ _. safe_bind _ _ (second_safe (either_form b rows _ k₂))
        (λ _ _. safe_need _ BlockSize _ refl (safe_passed _))))
        (λ w _. safe_bind _ _ (run_safe _) (λ address _. safe_cond (eqb g.row.third.form 0) _ _ (λ _. safe_passed _)
        (λ some. safe_bind _ _
        (locate_safe b _ _ (absent_form b rows _ k₃ some)
        (subst (λ ds. Known ds (refers_to g.row.third)) (sym (delivering_kept w address).definitions) (third_known c.definitions g.row known)))
        (λ _ _. safe_passed _)))),
    λ x k.
        let (w, _, m) = bind_passed _ _ k in
        let (address, _, n) = bind_passed _ _ m in
        elim (eqb g.row.third.form 0) as (λ t. cond t (passed (delivering b w address g.engine.state))
        (locate b (world (engine_after b (delivering b w address g.engine.state) g.engine)) g.row.third
        >>= λ a2. passed (and_storing b a2 (Rattle.machine.specs.Locate.contents b (world g.engine) w.a)
        (delivering b w address g.engine.state))) ≡ passed x → Change g x) [
          | true ↦ λ q. subst (Change g) (passed_same q) (keeps p (delivering_kept w address))
          | false ↦ λ q.
              let (a2, _, q₂) = bind_passed _ _ q in
              subst (Change g) (passed_same q₂) (keeps p (kept_trans (delivering_kept w address) (assigned_kept b a2 _ _)))
        ] n,
  )

  pub free_right : plain g.row.code ≡ true → is_ref g.row.first ≡ true → takes b rows ReferenceOrZero g.row.second ≡ true → Right (free b g)
  unfolding free reporting with_map on_core refusal_number
  free_right p k₁ k₂ = (
    safe_bind _ _ (a_safe k₁) (λ _ _. safe_bind _ _ (second_safe (zero_form b rows _ k₂))
        (λ _ _. safe_need _ NotABlock _ refl (safe_need _ FieldFreed _ refl (safe_passed _)))),
    λ x k.
        let (a, _, m) = bind_passed _ _ k in
        let (v, _, n) = bind_passed _ _ m in
        let (_, q) = need_passed _ _ _ n in
        let (_, q₂) = need_passed _ _ _ q in
        subst (Change g) (passed_same q₂) (keeps p (assigned_kept b a v.value c)),
  )

  pub duplicate_right : plain g.row.code ≡ true → is_ref g.row.first ≡ true → is_ref g.row.second ≡ true → Right (duplicate b g)
  unfolding duplicate duplicate_wants lowest_run refusal_number
  duplicate_right p k₁ k₂ = (
    safe_bind _ _ (safe_bind _ _ (a_safe k₁) (λ _ _. safe_bind _ _ (second_safe (λ _. ref_form _ k₂)) (λ _ _. safe_need _ NotABlock _ refl (safe_passed _))))
        (λ w _. safe_bind _ _ (run_safe _) (λ _ _. safe_passed _)),
    λ x k.
        let (w, _, m) = bind_passed _ _ k in
        let (address, _, n) = bind_passed _ _ m in
        subst (Change g) (passed_same n) (keeps p (delivering_kept w address)),
  )

  pub interchange_right : plain g.row.code ≡ true → is_ref g.row.first ≡ true → is_ref g.row.second ≡ true → Right (interchange b g)
  unfolding interchange and_storing storing reporting on_core
  interchange_right p k₁ k₂ = (
    safe_bind _ _ (a_safe k₁) (λ _ _. safe_bind _ _ (a2_safe k₂) (λ _ _. safe_passed _)),
    λ x k.
        let (a1, _, m) = bind_passed _ _ k in
        let (a2, _, n) = bind_passed _ _ m in
        subst (Change g) (passed_same n) (keeps p (kept_trans (assigned_kept b a1 _ c) (assigned_kept b a2 _ _))),
  )

  pub input_right : plain g.row.code ≡ true → is_ref g.row.first ≡ true → takes b rows Either g.row.second ≡ true → Right (input b g)
  unfolding input storing reporting on_core with_taken refusal_number
  input_right p k₁ k₂ = (
    safe_bind _ _ (a_safe k₁) (λ _ _. safe_bind _ _ (second_safe (either_form b rows _ k₂))
        (λ _ _. safe_need _ CharacterCount _ refl (safe_need _ InputShort _ refl (safe_need _ InputByte _ refl (safe_passed _))))),
    λ x k.
        let (a, _, m) = bind_passed _ _ k in
        let (_, _, n) = bind_passed _ _ m in
        let (_, q) = need_passed _ _ _ n in
        let (_, q₂) = need_passed _ _ _ q in
        let (_, q₃) = need_passed _ _ _ q₂ in
        subst (Change g) (passed_same q₃)
        (keeps p (kept_trans (record { definitions = refl; calls = refl; place = refl }) (assigned_kept b a _ (with_taken _ c)))),
  )

  pub print_right : plain g.row.code ≡ true → takes b rows Either g.row.first ≡ true → takes b rows Either g.row.second ≡ true → Right (print b g)
  unfolding print on_core with_written refusal_number
  print_right p k₁ k₂ = (
    safe_bind _ _ (first_safe (either_form b rows _ k₁)) (λ _ _. safe_bind _ _ (second_safe (either_form b rows _ k₂))
        (λ _ _. safe_need _ CharacterCount _ refl (safe_need _ OutputFull _ refl (safe_passed _)))),
    λ x k.
        let (_, _, m) = bind_passed _ _ k in
        let (_, _, n) = bind_passed _ _ m in
        let (_, q) = need_passed _ _ _ n in
        let (_, q₂) = need_passed _ _ _ q in
        subst (Change g) (passed_same q₂) (keeps p (record { definitions = refl; calls = refl; place = refl })),
  )

  pub save_contents_right : plain g.row.code ≡ true → is_ref g.row.first ≡ true → Right (save_contents b g)
  unfolding save_contents quietly on_core with_contents refusal_number
  save_contents_right p k₁ = (
    safe_bind _ _ (a_safe k₁) (λ _ _. safe_need _ StackFull _ refl (safe_passed _)),
    λ x k.
        let (_, _, m) = bind_passed _ _ k in
        let (_, n) = need_passed _ _ _ m in
        subst (Change g) (passed_same n) (keeps p (record { definitions = refl; calls = refl; place = refl })),
  )

  pub restore_contents_right : plain g.row.code ≡ true → is_ref g.row.first ≡ true → Right (restore_contents b g)
  unfolding restore_contents storing reporting on_core with_contents refusal_number
  restore_contents_right p k₁ = (
    safe_bind _ _ (a_safe k₁) (λ _ _. safe_need _ StackEmpty _ refl (safe_passed _)),
    λ x k.
        let (a, _, m) = bind_passed _ _ k in
        let (_, n) = need_passed _ _ _ m in
        subst (Change g) (passed_same n)
        (keeps p (kept_trans (record { definitions = refl; calls = refl; place = refl }) (assigned_kept b a _ (with_contents _ c)))),
  )

  pub save_definition_right : plain g.row.code ≡ true → Right (save_definition b g)
  unfolding save_definition quietly on_core with_saved refusal_number
  save_definition_right p = (
    safe_need _ StackFull _ refl (safe_passed _),
    λ x k.
        let (_, n) = need_passed _ _ _ k in
        subst (Change g) (passed_same n) (keeps p (record { definitions = refl; calls = refl; place = refl })),
  )

  pub restore_definition_right : g.row.code ≡ 35 → Right (restore_definition b g)
  unfolding restore_definition quietly on_core with_saved with_definition refusal_number
  restore_definition_right p = (
    safe_need _ StackEmpty _ refl (safe_passed _),
    λ x k.
        let (_, n) = need_passed _ _ _ k in
        subst (Change g) (passed_same n) (restores p _ (record { definitions = refl; calls = refl; place = refl })),
  )

  pub do_line_right : g.row.code ≡ 36 → Right (do_line b g)
  unfolding do_line quietly on_core refusal_number
  do_line_right p = (
    safe_need _ StackFull _ refl (safe_passed _),
    λ x k.
        let (room, n) = need_passed _ _ _ k in
        subst (Change g) (passed_same n) (does p (ltb-true _ _ room) kept_refl),
  )
