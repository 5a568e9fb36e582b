-- The names of a reference are in range: its bug is one of the 26 letters, each of its fields one of the 36 names.
-- Assumes nothing.
use Prim.Native.Nat.{ℕ, zero, suc, ◌-◌, ◌^◌, ◌<◌}
use native.Mathlib.Omega.{arith}
use mathlib.Core.Bool.{true}
use mathlib.Core.List.{List, [], ◌∷◌, map}
use mathlib.Core.Path.{◌≡◌}
use borrow.Author.Tests.{leb-true}
use lib.Dec.{leb, ltb}
use lib.ListN.{get_or}
use Rattle.word.proofs.Tests.{and_true}
use Rattle.table.specs.declared.FieldName.{FieldName}
use Rattle.table.specs.Reference.{digits_of, names, names_field, names_bug, name_fields, starts_with_bug, is_reference, named}
use Rattle.table.specs.Reference.{reference_of}

-- a name's number is its digit less the first one
in_names : (lowest x : ℕ) → names lowest x ≡ true → x - lowest < 37 - lowest
unfolding names
in_names lowest x h =
    let (low, high) = and_true (leb lowest x) (leb x 36) h in
    omega (arith, leb-true lowest x low, leb-true x 36 high)

in_fields : (xs : List ℕ) → name_fields xs ≡ true → (i : ℕ) → (get_or {A = FieldName} (map (λ (y : ℕ). record { 0 = y - 1 }) xs) i (record { 0 = 0 })).0 < 36
unfolding name_fields names_field
in_fields [] h i = omega arith
in_fields (x ∷ xs) h zero = in_names 1 x (and_true (names 1 x) (name_fields xs) h).0
in_fields (x ∷ xs) h (suc i) = in_fields xs (and_true (names 1 x) (name_fields xs) h).1 i

module _ (v : ℕ) (h : is_reference v ≡ true) where
  starts : starts_with_bug (digits_of v) ≡ true
  unfolding is_reference
  starts = (and_true (ltb v (64 ^ 6)) (starts_with_bug (digits_of v)) h).1

  pub bug_in : (reference_of v).bug.0 < 26
  unfolding reference_of starts_with_bug named names_bug
  bug_in = go (digits_of v) starts
    where
      go : (xs : List ℕ) → starts_with_bug xs ≡ true → (named xs).bug.0 < 26
      go [] k = omega arith
      go (x ∷ xs) k = in_names 11 x (and_true (names 11 x) (name_fields xs) k).0

  pub field_in : (i : ℕ) → (get_or (reference_of v).fields i (record { 0 = 0 })).0 < 36
  unfolding reference_of starts_with_bug named
  field_in i = go (digits_of v) starts
    where
      go : (xs : List ℕ) → starts_with_bug xs ≡ true → (get_or (named xs).fields i (record { 0 = 0 })).0 < 36
      go [] k = omega arith
      go (x ∷ xs) k = in_fields xs (and_true (names_bug x) (name_fields xs) k).1 i
