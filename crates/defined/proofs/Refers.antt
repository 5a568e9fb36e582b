-- The fields of a row and of its pairs: a row refers to a field exactly where one of its pairs does.
-- Assumes nothing.
use Prim.Native.Nat.{ℕ}
use mathlib.Core.Bool.{Bool, true, false, ◌||◌}
use mathlib.Core.List.{List, [], ◌∷◌, ◌++◌}
use mathlib.Core.Logic.{⊎_elim}
use mathlib.Core.Path.{◌≡◌, refl, ap, sym, ◌∙◌}
use borrow.Author.Tests.{eq-eqb, ne_eqb}
use lib.Dec.{eqb}
use Rattle.table.specs.declared.FieldName.{FieldName}
use Rattle.table.specs.declared.Pair.{Pair}
use Rattle.table.specs.declared.Row.{Row}
use Rattle.table.specs.Reference.{reference_of}
use Rattle.machine.proofs.Checks.{or_parts, clash}
use Rattle.defined.specs.Paths.{names, pair_fields, fields_of}

pub or_left : (s t : Bool) → s ≡ true → (s || t) ≡ true
or_left s t h = rw h

pub or_right : (s t : Bool) → t ≡ true → (s || t) ≡ true
or_right true t h = refl
or_right false t h = h

-- a pair refers to field n, and a row does
abbrev pub refers_to : Pair → ℕ → Bool
refers_to p n = names (pair_fields p) n

abbrev pub row_refers : Row → ℕ → Bool
row_refers row n = names (fields_of row) n

names_append : (fs gs : List FieldName) (n : ℕ) → names (fs ++ gs) n ≡ (names fs n || names gs n)
unfolding names
names_append [] gs n = refl
names_append (f ∷ fs) gs n = ap (λ t. eqb f.0 n || t) (names_append fs gs n) ∙ regroup (eqb f.0 n) (names fs n) (names gs n)
  where
    regroup : (s t u : Bool) → (s || (t || u)) ≡ ((s || t) || u)
    regroup true t u = refl
    regroup false t u = refl

row_refers_lem : (row : Row) (n : ℕ) → row_refers row n ≡ (refers_to row.first n || (refers_to row.second n || refers_to row.third n))
unfolding fields_of
row_refers_lem row n =
    names_append (pair_fields row.first) _ n
    ∙ ap (λ t. refers_to row.first n || t) (names_append (pair_fields row.second) (pair_fields row.third) n)

module _ (row : Row) (n : ℕ) where
  pub first_refers : refers_to row.first n ≡ true → row_refers row n ≡ true
  first_refers h = row_refers_lem row n ∙ or_left (refers_to row.first n) _ h

  pub second_refers : refers_to row.second n ≡ true → row_refers row n ≡ true
  second_refers h = row_refers_lem row n ∙ or_right (refers_to row.first n) _ (or_left (refers_to row.second n) _ h)

  pub third_refers : refers_to row.third n ≡ true → row_refers row n ≡ true
  third_refers h = row_refers_lem row n ∙ or_right (refers_to row.first n) _ (or_right (refers_to row.second n) _ h)

  -- by one of its pairs
  pub refers_by : {P : Type 0} → (refers_to row.first n ≡ true → P) → (refers_to row.second n ≡ true → P) → (refers_to row.third n ≡ true → P)
      → row_refers row n ≡ true → P
  refers_by f g k h =
      ⊎_elim f (λ q. ⊎_elim g k (or_parts (refers_to row.second n) _ q)) (or_parts (refers_to row.first n) _ (sym (row_refers_lem row n) ∙ h))

-- the fields of a reference, and of a pair that is none
pub reference_fields : (p : Pair) → p.form ≡ 2 → pair_fields p ≡ (reference_of p.value).fields
unfolding pair_fields
reference_fields p form = rw (eq-eqb p.form 2 form)

pub other_fields : (p : Pair) → (p.form ≡ 2 → ⊥) → pair_fields p ≡ []
unfolding pair_fields
other_fields p o = rw (ne_eqb p.form 2 o)

-- a pair that refers to a field is a reference
pub refers_form : (p : Pair) (n : ℕ) → refers_to p n ≡ true → (eqb p.form 2 ≡ true) × (names (reference_of p.value).fields n ≡ true)
unfolding pair_fields names
refers_form p n h = go (eqb p.form 2) refl h
  where
    go : (t : Bool) → eqb p.form 2 ≡ t → names (mathlib.Core.Bool.cond t (reference_of p.value).fields []) n ≡ true
        → (eqb p.form 2 ≡ true) × (names (reference_of p.value).fields n ≡ true)
    go true e k = (e, k)
    go false e k = clash k
