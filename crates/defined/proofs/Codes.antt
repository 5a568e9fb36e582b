-- The meaning of every code: never refused by 14 where every field that its row refers to is defined, and what it changes.
-- Assumes nothing.
use Prim.Native.Nat.{ℕ, zero, suc, ◌+◌, ◌-◌, ◌≤◌, ◌<◌}
use native.Mathlib.Nat.{add-zero, add-suc, suc-add}
use native.Mathlib.Omega.{arith}
use mathlib.Core.Bool.{true}
use mathlib.Core.List.{List, [], ◌∷◌}
use mathlib.Core.Option.{Option, none, some}
use mathlib.Core.Path.{◌≡◌, refl, sym, subst, ◌∙◌}
use lib.ListN.{get_or, length}
use Rattle.word.proofs.Tests.{and_true as and_parts}
use Rattle.table.specs.declared.Operand.TheVariants.{Reference, Either}
use Rattle.table.specs.Operands.{takes, shapes}
use Rattle.table.specs.Table.{fit_pairs, shape_of}
use Rattle.machine.specs.declared.Refusal.TheVariants.{NotADigit, ZeroDivisor, SubtrahendGreater}
use Rattle.machine.specs.Answer.{Checked, passed, refusal_number}
use Rattle.machine.specs.Locate.{Value}
use Rattle.machine.specs.Effects.{Effects}
use Rattle.machine.specs.Operations.{Given, Meaning, Operation, makes, operations, operation_of, meaning_of, meaning, or_refuse}
use Rattle.machine.specs.Operations.{computing, difference, quotient}
use Rattle.defined.proofs.Refers.{row_refers}
use Rattle.defined.proofs.Safe.{Safe, Known, other_refusal, safe_passed, safe_need}
use Rattle.defined.proofs.Changes.{Change, plain, ref_form, either_form, computing_right, set_up_right, define_right}
use Rattle.defined.proofs.Changes.{get_right, free_right, duplicate_right, interchange_right, input_right, print_right}
use Rattle.defined.proofs.Changes.{save_contents_right, restore_contents_right, save_definition_right, restore_definition_right}
use Rattle.defined.proofs.Changes.{do_line_right}

infixr 10 ◌⨾◌
-- each operation of a list, from code i on, has what is asked of it
data Each (P : ℕ → Meaning → Type 0) : ℕ → List Operation → Type 0 where
  end : {i : ℕ} → Each P i []
  ◌⨾◌ : {i : ℕ} {o : Operation} {os : List Operation} → P i (meaning_of o) → Each P (suc i) os → Each P i (o ∷ os)

each_at : (P : ℕ → Meaning → Type 0) (d : Operation) (i : ℕ) (os : List Operation) → Each P i os → (n : ℕ) → n < length os → P (i + n) (meaning_of (get_or os n d))
each_at P d i [] end n h = absurd (omega arith)
each_at P d i (o ∷ os) (p ⨾ ps) zero h = rw add-zero p
each_at P d i (o ∷ os) (p ⨾ ps) (suc n) h =
    subst (λ j. P j (meaning_of (get_or os n d))) (suc-add i n ∙ sym (add-suc i n)) (each_at P d (suc i) os ps n (omega arith))

or_refuse_safe : (x : Option ℕ) → Safe (or_refuse x NotADigit)
unfolding or_refuse refusal_number
or_refuse_safe none = other_refusal NotADigit refl
or_refuse_safe (some v) = safe_passed v

module _ (b rows : ℕ) (g : Given) (known : Known g.engine.state.core.definitions (row_refers g.row))
    (pairs : fit_pairs b rows (shape_of g.row.code) g.row ≡ true) where
  abbrev Right : ℕ → Meaning → Type 0
  Right i m = g.row.code ≡ i → Safe (m b g) × ((x : Effects) → m b g ≡ passed x → Change g x)

  -- the pairs of code i
  first_at : (i : ℕ) → g.row.code ≡ i → takes b rows (shape_of i).first g.row.first ≡ true
  unfolding fit_pairs
  first_at i c = (and_parts _ _ (rw c at pairs)).0

  second_at : (i : ℕ) → g.row.code ≡ i → takes b rows (shape_of i).second g.row.second ≡ true
  unfolding fit_pairs
  second_at i c = (and_parts _ _ (and_parts (takes b rows (shape_of i).first g.row.first) _ (rw c at pairs)).1).0

  third_at : (i : ℕ) → g.row.code ≡ i → takes b rows (shape_of i).third g.row.third ≡ true
  unfolding fit_pairs
  third_at i c = (and_parts (takes b rows (shape_of i).second g.row.second) _
      (and_parts (takes b rows (shape_of i).first g.row.first) _ (rw c at pairs)).1).1

  plain_at : (i : ℕ) → plain i ≡ true → g.row.code ≡ i → plain g.row.code ≡ true
  plain_at i p c = rw c p

  -- an operation that computes, from a reference and a literal or a reference, or from two references
  either_right : (i : ℕ) → plain i ≡ true → (shape_of i).first ≡ Reference → (shape_of i).second ≡ Either
      → (f : ℕ → Value → Value → Checked ℕ) → ((x y : Value) → Safe (f b x y)) → Right i (computing f)
  either_right i p x y f s c =
      computing_right b rows g known (plain_at i p c) (rw x at (first_at i c)) (either_form b rows _ (rw y at (second_at i c))) f s

  reference_right : (i : ℕ) → plain i ≡ true → (shape_of i).first ≡ Reference → (shape_of i).second ≡ Reference
      → (f : ℕ → Value → Value → Checked ℕ) → ((x y : Value) → Safe (f b x y)) → Right i (computing f)
  reference_right i p x y f s c =
      computing_right b rows g known (plain_at i p c) (rw x at (first_at i c)) (λ _. ref_form _ (rw y at (second_at i c))) f s

  all_right : Each Right 1 operations
  unfolding operations meaning_of makes shape_of shapes difference quotient refusal_number
  all_right =
      (λ c. set_up_right b rows g known (plain_at 1 refl c))
      ⨾ (λ c. define_right b rows g known c (first_at 2 c) (second_at 2 c) (third_at 2 c))
      ⨾ (λ c. get_right b rows g known (plain_at 3 refl c) (first_at 3 c) (second_at 3 c) (third_at 3 c))
      ⨾ (λ c. free_right b rows g known (plain_at 4 refl c) (first_at 4 c) (second_at 4 c))
      ⨾ (λ c. duplicate_right b rows g known (plain_at 5 refl c) (first_at 5 c) (second_at 5 c))
      ⨾ either_right 6 refl refl refl _ (λ x y. safe_passed _)
      ⨾ (λ c. interchange_right b rows g known (plain_at 7 refl c) (first_at 7 c) (second_at 7 c))
      ⨾ either_right 8 refl refl refl _ (λ x y. safe_passed _)
      ⨾ either_right 9 refl refl refl _ (λ x y. safe_need _ SubtrahendGreater _ refl (safe_passed _))
      ⨾ either_right 10 refl refl refl _ (λ x y. safe_passed _)
      ⨾ either_right 11 refl refl refl _ (λ x y. safe_need _ ZeroDivisor _ refl (safe_passed _))
      ⨾ either_right 12 refl refl refl _ (λ x y. safe_passed _)
      ⨾ either_right 13 refl refl refl _ (λ x y. safe_passed _)
      ⨾ either_right 14 refl refl refl _ (λ x y. safe_passed _)
      ⨾ either_right 15 refl refl refl _ (λ x y. safe_passed _)
      ⨾ reference_right 16 refl refl refl _ (λ x y. safe_passed _)
      ⨾ reference_right 17 refl refl refl _ (λ x y. safe_passed _)
      ⨾ reference_right 18 refl refl refl _ (λ x y. safe_passed _)
      ⨾ reference_right 19 refl refl refl _ (λ x y. safe_passed _)
      ⨾ reference_right 20 refl refl refl _ (λ x y. safe_passed _)
      ⨾ reference_right 21 refl refl refl _ (λ x y. safe_passed _)
      ⨾ either_right 22 refl refl refl _ (λ x y. safe_passed _)
      ⨾ either_right 23 refl refl refl _ (λ x y. safe_passed _)
      ⨾ (λ c. input_right b rows g known (plain_at 24 refl c) (first_at 24 c) (second_at 24 c))
      ⨾ (λ c. print_right b rows g known (plain_at 25 refl c) (first_at 25 c) (second_at 25 c))
      ⨾ reference_right 26 refl refl refl _ (λ x y. safe_passed _)
      ⨾ reference_right 27 refl refl refl _ (λ x y. or_refuse_safe _)
      ⨾ reference_right 28 refl refl refl _ (λ x y. or_refuse_safe _)
      ⨾ reference_right 29 refl refl refl _ (λ x y. safe_passed _)
      ⨾ reference_right 30 refl refl refl _ (λ x y. safe_passed _)
      ⨾ reference_right 31 refl refl refl _ (λ x y. safe_passed _)
      ⨾ (λ c. save_contents_right b rows g known (plain_at 32 refl c) (first_at 32 c))
      ⨾ (λ c. restore_contents_right b rows g known (plain_at 33 refl c) (first_at 33 c))
      ⨾ (λ c. save_definition_right b rows g known (plain_at 34 refl c))
      ⨾ (λ c. restore_definition_right b rows g known c)
      ⨾ (λ c. do_line_right b rows g known c)
      ⨾ end

  -- the meaning of the row's code
  pub meaning_right : 1 ≤ g.row.code → g.row.code ≤ 36
      → Safe (meaning g.row.code b g) × ((x : Effects) → meaning g.row.code b g ≡ passed x → Change g x)
  unfolding meaning operation_of operations
  meaning_right low high =
      each_at Right _ 1 operations all_right (g.row.code - 1) (omega arith) (omega arith)
