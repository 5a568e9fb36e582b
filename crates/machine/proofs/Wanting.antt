-- No step but a get or a duplicate is refused for want of storage (17). By what each operation checks: none of its refusals is 17, and what
-- it is given is located without one. Assumes nothing.
use Prim.Native.Nat.{ℕ, zero, suc, ◌+◌, ◌-◌}
use native.Mathlib.Nat.{add-zero, add-suc, suc-add}
use native.Mathlib.Omega.{arith}
use mathlib.Core.Bool.{Bool, true, false, cond, beq}
use mathlib.Core.List.{List, [], ◌∷◌}
use mathlib.Core.Option.{Option, none, some}
use mathlib.Core.Logic.{◌⊎◌, inl, inr, ⊎_elim}
use mathlib.Core.Path.{◌≡◌, refl, sym, ap, subst, ◌∙◌}
use lib.Dec.{eqb}
use lib.ListN.{get_or}
use Rattle.word.proofs.Tests.{by_test, by_eqb}
use Rattle.table.specs.declared.FieldName.{FieldName}
use Rattle.table.specs.declared.Pair.{Pair}
use Rattle.table.specs.Row.{row_at, go_to_of, done}
use Rattle.machine.specs.declared.Answer.TheVariants.{Running, Finished, Refused}
use Rattle.machine.specs.declared.Location.{Location}
use Rattle.machine.specs.declared.Refusal.{Refusal}
use Rattle.machine.specs.declared.Refusal.TheVariants.{TableLength, BadRow, SetUpNumbers, InputByte, InputShort, NotADigit}
use Rattle.machine.specs.declared.Refusal.TheVariants.{DefinitionNumber, BlockSize, ZeroDivisor, CharacterCount, Unsound}
use Rattle.machine.specs.declared.Refusal.TheVariants.{BeforeSetUp, SecondSetUp, UndefinedField, NotABlock, OutsideBlock}
use Rattle.machine.specs.declared.Refusal.TheVariants.{NoRun, FieldFreed, StackFull, StackEmpty, OutputFull}
use Rattle.machine.specs.declared.Refusal.TheVariants.{SubtrahendGreater, NoWidth}
use Rattle.machine.specs.Answer.{Checked, refused, passed, ◌>>=◌, ◌>>◌, need}
use Rattle.machine.specs.Sound.{Lent, Engine, sound}
use Rattle.machine.specs.State.{is_finished}
use Rattle.machine.specs.Locate.{World, Value, link_by, link, follow, locate, operand}
use Rattle.machine.specs.Test.{settling, testing, satisfied}
use Rattle.machine.specs.Effects.{Effects, quietly}
use Rattle.machine.specs.Operations.{Given, Operation, get_wants, duplicate_wants, own, makes, or_refuse, set_up, define, free}
use Rattle.machine.specs.Operations.{interchange, computing, difference, quotient, input, print, save_contents}
use Rattle.machine.specs.Operations.{restore_contents, save_definition, restore_definition, do_line, operations, operation_of}
use Rattle.machine.specs.Operations.{meaning_of, meaning}
use Rattle.machine.proofs.Steps.{by_width}
use Rattle.machine.specs.Step.{tests_step, in_turn, operation_step, return, exit_step, plan, unchanged, carried_out, outcome}
use Rattle.machine.specs.Step.{step_at, step}

-- 17
unfoldable pub is_run : Refusal → Bool
is_run TableLength = false
is_run BadRow = false
is_run SetUpNumbers = false
is_run InputByte = false
is_run InputShort = false
is_run NotADigit = false
is_run DefinitionNumber = false
is_run BlockSize = false
is_run ZeroDivisor = false
is_run CharacterCount = false
is_run Unsound = false
is_run BeforeSetUp = false
is_run SecondSetUp = false
is_run UndefinedField = false
is_run NotABlock = false
is_run OutsideBlock = false
is_run NoRun = true
is_run FieldFreed = false
is_run StackFull = false
is_run StackEmpty = false
is_run OutputFull = false
is_run SubtrahendGreater = false
is_run NoWidth = false

-- checks that are not refused by 17
pub data Fine {A : Type 0} : Checked A → Type 0 where
  fine : {x : A} → Fine (passed x)
  other : {r : Refusal} → is_run r ≡ false → Fine {A = A} (refused r)

module _ {A B : Type 0} where
  pub bind_fine : {m : Checked A} {f : A → Checked B} → Fine m → ((x : A) → Fine (f x)) → Fine (m >>= f)
  unfolding ◌>>=◌
  bind_fine fine h = h _
  bind_fine (other e) h = other e

  then_fine : {m : Checked A} {n : Checked B} → Fine m → Fine n → Fine (m >> n)
  unfolding ◌>>◌
  then_fine fine h = h
  then_fine (other e) h = other e

need_alone_fine : (t : Bool) (r : Refusal) → is_run r ≡ false → Fine (need t r)
unfolding need
need_alone_fine true r e = fine
need_alone_fine false r e = other e

pub need_fine : {A : Type 0} (t : Bool) (r : Refusal) {m : Checked A} → is_run r ≡ false → Fine m → Fine (need t r >> m)
need_fine t r e h = then_fine (need_alone_fine t r e) h

cond_fine : {A : Type 0} (t : Bool) {m n : Checked A} → Fine m → Fine n → Fine (cond t m n)
cond_fine true h k = h
cond_fine false h k = k

-- so they are no refusal by 17
pub never : {A : Type 0} {m : Checked A} → Fine m → m ≡ refused NoRun → ⊥
unfolding is_run
never fine k = let z : ◌≡◌ {A = ℕ} 0 1 = cc in omega arith
never (other {r} e) k =
    let same : r ≡ NoRun = cc in
    let t : is_run NoRun ≡ false = ap is_run (sym same) ∙ e in
    let z : ◌≡◌ {A = ℕ} 0 1 = cc in omega arith

-- references and operands
link_fine : (w : World) (pointer : ℕ) (f : FieldName) → Fine (link w pointer f)
unfolding link link_by is_run
link_fine w pointer f = need_fine _ UndefinedField refl (need_fine _ NotABlock refl (need_fine _ OutsideBlock refl fine))

follow_fine : (b : ℕ) (w : World) (at : Location) (fs : List FieldName) → Fine (follow b w at fs)
unfolding follow
follow_fine b w at [] = fine
follow_fine b w at (f ∷ fs) = bind_fine (link_fine w _ f) (λ next. follow_fine b w next fs)

pub locate_fine : (b : ℕ) (w : World) (p : Pair) → Fine (locate b w p)
unfolding locate
locate_fine b w p = follow_fine b w _ _

pub operand_fine : (b : ℕ) (w : World) (p : Pair) → Fine (operand b w p)
unfolding operand
operand_fine b w p = cond_fine (eqb p.form 1) fine (bind_fine (locate_fine b w p) (λ at. fine))

-- operations with a meaning of their own
module _ (b : ℕ) (g : Given) where
  set_up_fine : Fine (set_up b g)
  unfolding set_up is_run
  set_up_fine = need_fine _ SetUpNumbers refl fine

  define_fine : Fine (define b g)
  unfolding define is_run
  define_fine =
      bind_fine (operand_fine b _ _) (λ word. bind_fine (operand_fine b _ _) (λ left. bind_fine (operand_fine b _ _) (λ right.
      need_fine _ DefinitionNumber refl fine)))

  free_fine : Fine (free b g)
  unfolding free is_run
  free_fine = bind_fine (locate_fine b _ _) (λ a. bind_fine (operand_fine b _ _) (λ c. need_fine _ NotABlock refl (need_fine _ FieldFreed refl fine)))

  interchange_fine : Fine (interchange b g)
  unfolding interchange
  interchange_fine = bind_fine (locate_fine b _ _) (λ a. bind_fine (locate_fine b _ _) (λ c. fine))

  input_fine : Fine (input b g)
  unfolding input is_run
  input_fine =
      bind_fine (locate_fine b _ _) (λ a. bind_fine (operand_fine b _ _) (λ n.
      need_fine _ CharacterCount refl (need_fine _ InputShort refl (need_fine _ InputByte refl fine))))

  print_fine : Fine (print b g)
  unfolding print is_run
  print_fine =
      bind_fine (operand_fine b _ _) (λ n. bind_fine (operand_fine b _ _) (λ x. need_fine _ CharacterCount refl (need_fine _ OutputFull refl fine)))

  save_fine : Fine (save_contents b g)
  unfolding save_contents is_run
  save_fine = bind_fine (locate_fine b _ _) (λ a. need_fine _ StackFull refl fine)

  restore_fine : Fine (restore_contents b g)
  unfolding restore_contents is_run
  restore_fine = bind_fine (locate_fine b _ _) (λ a. need_fine _ StackEmpty refl fine)

  save_definition_fine : Fine (save_definition b g)
  unfolding save_definition is_run
  save_definition_fine = need_fine _ StackFull refl fine

  restore_definition_fine : Fine (restore_definition b g)
  unfolding restore_definition is_run
  restore_definition_fine = need_fine _ StackEmpty refl fine

  do_fine : Fine (do_line b g)
  unfolding do_line is_run
  do_fine = need_fine _ StackFull refl fine

  computing_fine : (f : ℕ → Value → Value → Checked ℕ) → ((x y : Value) → Fine (f b x y)) → Fine (computing f b g)
  unfolding computing
  computing_fine f h =
      bind_fine (locate_fine b _ _) (λ a. bind_fine (operand_fine b _ _) (λ x. bind_fine (h _ x) (λ v. fine)))

-- what a get and a duplicate want
module _ (b : ℕ) (g : Given) where
  pub get_wants_fine : Fine (get_wants b g)
  unfolding get_wants is_run
  get_wants_fine = bind_fine (locate_fine b _ _) (λ a. bind_fine (operand_fine b _ _) (λ n. need_fine _ BlockSize refl fine))

  pub duplicate_wants_fine : Fine (duplicate_wants b g)
  unfolding duplicate_wants is_run
  duplicate_wants_fine = bind_fine (locate_fine b _ _) (λ a. bind_fine (operand_fine b _ _) (λ c. need_fine _ NotABlock refl fine))

or_fine : (o : Option ℕ) (r : Refusal) → is_run r ≡ false → Fine (or_refuse o r)
unfolding or_refuse
or_fine none r e = other e
or_fine (some v) r e = fine

-- an operation that is neither a get nor a duplicate
abbrev Ready : ℕ → Operation → Type 0
Ready code o = (code ≡ 3 → ⊥) → (code ≡ 5 → ⊥) → (b : ℕ) (g : Given) → Fine (meaning_of o b g)

infixr 10 ◌⨾◌
-- the operations of a list, from a code on
data Each : ℕ → List Operation → Type 0 where
  end : {i : ℕ} → Each i []
  ◌⨾◌ : {i : ℕ} {o : Operation} {os : List Operation} → Ready i o → Each (suc i) os → Each i (o ∷ os)

makes_fine : {i : ℕ} (f : ℕ → Value → Value → ℕ) → Ready i (makes f)
unfolding makes meaning_of
makes_fine f h k b g = computing_fine b g (λ b a x. passed (f b a x)) (λ x y. fine)

all_fine : Each 1 operations
unfolding operations meaning_of is_run difference quotient
all_fine =
    (λ h k b g. set_up_fine b g)  -- 1
    ⨾ (λ h k b g. define_fine b g)  -- 2
    ⨾ (λ h k b g. absurd (h refl))  -- 3 get
    ⨾ (λ h k b g. free_fine b g)  -- 4
    ⨾ (λ h k b g. absurd (k refl))  -- 5 duplicate
    ⨾ makes_fine _  -- 6
    ⨾ (λ h k b g. interchange_fine b g)  -- 7
    ⨾ makes_fine _  -- 8
    ⨾ (λ h k b g. computing_fine b g difference (λ x y. need_fine _ SubtrahendGreater refl fine))  -- 9
    ⨾ makes_fine _  -- 10
    ⨾ (λ h k b g. computing_fine b g quotient (λ x y. need_fine _ ZeroDivisor refl fine))  -- 11
    ⨾ makes_fine _ ⨾ makes_fine _ ⨾ makes_fine _ ⨾ makes_fine _ ⨾ makes_fine _ ⨾ makes_fine _  -- 12 to 17
    ⨾ makes_fine _ ⨾ makes_fine _ ⨾ makes_fine _ ⨾ makes_fine _ ⨾ makes_fine _ ⨾ makes_fine _  -- 18 to 23
    ⨾ (λ h k b g. input_fine b g)  -- 24
    ⨾ (λ h k b g. print_fine b g)  -- 25
    ⨾ makes_fine _  -- 26
    ⨾ (λ h k b g. computing_fine b g _ (λ x y. or_fine _ NotADigit refl))  -- 27
    ⨾ (λ h k b g. computing_fine b g _ (λ x y. or_fine _ NotADigit refl))  -- 28
    ⨾ makes_fine _ ⨾ makes_fine _ ⨾ makes_fine _  -- 29 to 31
    ⨾ (λ h k b g. save_fine b g)  -- 32
    ⨾ (λ h k b g. restore_fine b g)  -- 33
    ⨾ (λ h k b g. save_definition_fine b g)  -- 34
    ⨾ (λ h k b g. restore_definition_fine b g)  -- 35
    ⨾ (λ h k b g. do_fine b g)  -- 36
    ⨾ end

at_place : (i : ℕ) (os : List Operation) → Each i os → (n : ℕ) → Ready (i + n) (get_or os n (own (λ b g. passed (quietly g.engine.state))))
unfolding meaning_of
at_place i [] end n = λ h k b g. fine
at_place i (o ∷ os) (r ⨾ rs) zero = rw add-zero r
at_place i (o ∷ os) (r ⨾ rs) (suc n) = subst (λ j. Ready j (get_or os n (own (λ b g. passed (quietly g.engine.state))))) (suc-add i n
    ∙ sym (add-suc i n)) (at_place (suc i) os rs n)

meaning_fine : (code b : ℕ) (g : Given) → (code ≡ 3 → ⊥) → (code ≡ 5 → ⊥) → Fine (meaning code b g)
unfolding meaning operation_of
meaning_fine code b g h k = at_place 1 operations all_fine (code - 1) (λ z. h (omega arith)) (λ z. k (omega arith)) b g

-- tests
satisfied_fine : (b : ℕ) (table : List ℕ) (w : World) (mode count r : ℕ) → Fine (satisfied b table w mode count r)
unfolding satisfied testing is_run
satisfied_fine b table w mode zero r = fine
satisfied_fine b table w mode (suc count) r =
    cond_fine (eqb r 0) fine
    (bind_fine (need_fine _ BadRow refl (bind_fine (operand_fine b w _) (λ c. bind_fine (operand_fine b w _) (λ cd. fine))))
    (λ t. cond_fine (beq t.holds (settling mode)) fine (satisfied_fine b table w mode count t.next)))

-- the steps
module _ (b : ℕ) (l : Lent) (e : Engine) where
  tests_fine : Fine (tests_step b l e)
  unfolding tests_step is_run
  tests_fine = need_fine _ BadRow refl (bind_fine (satisfied_fine b l.table _ _ _ _) (λ holds. fine))

  exit_fine : Fine (exit_step b l e)
  unfolding exit_step return is_run
  exit_fine =
      need_fine _ BadRow refl (cond_fine (eqb (go_to_of (row_at l.table e.state.core.place.line)) done) (need_fine _ StackEmpty refl fine) fine)

  abbrev pub code : ℕ
  code = (row_at l.table e.state.core.place.row).code

  operation_fine : (code ≡ 3 → ⊥) → (code ≡ 5 → ⊥) → Fine (operation_step b l e)
  unfolding operation_step in_turn is_run
  operation_fine h k =
      need_fine _ BadRow refl
      (then_fine (cond_fine (eqb code 1) (need_alone_fine _ SecondSetUp refl) (need_alone_fine _ BeforeSetUp refl)) (meaning_fine code b _ h k))

  -- a get or a duplicate
  abbrev pub Delivers : Type 0
  Delivers = (e.state.core.place.kind ≡ 1) × ((code ≡ 3) ⊎ (code ≡ 5))

  plan_fine : (Delivers → ⊥) → Fine (plan b l e)
  unfolding plan is_run
  plan_fine not_one =
      need_fine _ TableLength refl
      (cond_fine (eqb e.state.core.place.kind 0) tests_fine
      (by_eqb (λ t. Fine (cond t (operation_step b l e) (exit_step b l e))) e.state.core.place.kind 1
      (λ at. operation_fine (λ c. not_one (at, inl c)) (λ c. not_one (at, inr c))) (λ _. exit_fine)))

  -- what is left of a plan that is not refused by 17
  not_run : (p : Checked Effects) → Fine p → (outcome b p l e).stepped.answer ≡ Refused NoRun → ⊥
  unfolding outcome unchanged carried_out
  not_run (passed x) h =
      by_test (λ t. cond t Finished Running ≡ Refused NoRun → ⊥) (is_finished x.state.core.place)
      (λ _ k. let z : ◌≡◌ {A = ℕ} 0 1 = cc in omega arith) (λ _ k. let z : ◌≡◌ {A = ℕ} 0 1 = cc in omega arith)
  not_run (refused r) h = λ k. never h (let same : r ≡ NoRun = cc in ap refused same)

  only_deliveries : (step_at b l e).stepped.answer ≡ Refused NoRun → (Delivers → ⊥) → ⊥
  unfolding step_at unchanged
  only_deliveries k not_one =
      by_test
      (λ t. (cond t (cond (is_finished e.state.core.place) (unchanged Finished l e) (outcome b (plan b l e) l e))
      (unchanged (Refused Unsound) l e)).stepped.answer
      ≡ Refused NoRun → ⊥) (sound b l e)
      (λ _. by_test (λ t. (cond t (unchanged Finished l e) (outcome b (plan b l e) l e)).stepped.answer ≡ Refused NoRun
      → ⊥) (is_finished e.state.core.place)
      (λ _ j. let z : ◌≡◌ {A = ℕ} 0 1 = cc in omega arith) (λ _. not_run (plan b l e) (plan_fine not_one)))
      (λ _ j. let z : ◌≡◌ {A = ℕ} 0 1 = cc in omega arith) k

  pub no_run_delivers_at : (step_at b l e).stepped.answer ≡ Refused NoRun → Delivers
  no_run_delivers_at k =
      by_eqb (λ _. Delivers) e.state.core.place.kind 1
      (λ at. by_eqb (λ _. Delivers) code 3 (λ get. (at, inl get))
      (λ no-get. by_eqb (λ _. Delivers) code 5 (λ copy. (at, inr copy))
      (λ no_copy. absurd (only_deliveries k (λ d. ⊎_elim no-get no_copy d.1)))))
      (λ elsewhere. absurd (only_deliveries k (λ d. elsewhere d.0)))

-- 17 is a get's or a duplicate's
pub no_run_delivers : (l : Lent) (e : Engine) → (step l e).stepped.answer ≡ Refused NoRun → Delivers e.state.width l e
unfolding unchanged
no_run_delivers l e =
    by_width l e (λ o. o.stepped.answer ≡ Refused NoRun → Delivers e.state.width l e)
    (λ _. no_run_delivers_at e.state.width l e) (λ _ k. let z : ◌≡◌ {A = ℕ} 0 1 = cc in absurd (omega arith))
