-- A reference from the left: its first digit names its bug, and each digit after it a field. Assumes nothing.
use Prim.Native.Nat.{ℕ, zero, suc, ◌+◌, ◌-◌, ◌*◌, ◌/◌, ◌%◌, ◌^◌, ◌≤◌, ◌<◌}
use native.Mathlib.Nat.{div-eq_of_lt, mod-eq_of_lt, div-one, lt_of_lt_of_le, le_trans}
use native.Mathlib.Omega.{arith}
use mathlib.Core.Bool.{true, ◌&&◌}
use mathlib.Core.List.{List, [], ◌∷◌, map, ◌++◌}
use mathlib.Core.Path.{◌≡◌, refl, sym, ap, subst, ◌∙◌}
use borrow.Author.Tests.{ne_eqb}
use lib.Dec.{ltb}
use lib.Count.{count_leading_zeros, leading_top}
use lib.Pow.{pow_pos, pow_mono, pow-add, shr-shr}
use Rattle.word.proofs.Tests.{and_true, by_leb, by_eqb}
use Rattle.table.proofs.Digits.{name_range, reference_positive, reference_small}
use Rattle.table.specs.declared.FieldName.{FieldName}
use Rattle.table.specs.Reference.{digits_before, digits_of, names_field, names_bug, name_fields, starts_with_bug}
use Rattle.table.specs.Reference.{is_reference, named, reference_of, Following, FollowingLater, name_at}

-- the last n digits of v, first one first, and the fields that they name
unfoldable last_digits : ℕ → ℕ → List ℕ
last_digits zero v = []
last_digits (suc n) v = v / 2 ^ (6 * n) % 64 ∷ last_digits n v

unfoldable pub last_names : ℕ → ℕ → List FieldName
last_names zero v = []
last_names (suc n) v = name_at v (6 * n) ∷ last_names n v

-- six bits more
shifted : (n v : ℕ) → v / 64 / 2 ^ (6 * n) ≡ v / 2 ^ (6 * suc n)
shifted n v = let six : 6 + 6 * n ≡ 6 * suc n = omega arith in shr-shr v 6 (6 * n) ∙ ap (λ (k : ℕ). v / 2 ^ k) six

-- the last digit stands last
last_digit : (n v : ℕ) (ds : List ℕ) → last_digits n (v / 64) ++ (v % 64 ∷ ds) ≡ last_digits (suc n) v ++ ds
unfolding last_digits
last_digit zero v ds = ap (λ (x : ℕ). x % 64 ∷ ds) (sym (div-one v))
last_digit (suc n) v ds = ap (λ (x : ℕ). x % 64 ∷ (last_digits n (v / 64) ++ (v % 64 ∷ ds))) (shifted n v)
    ∙ ap (λ (xs : List ℕ). v / 2 ^ (6 * suc n) % 64 ∷ xs) (last_digit n v ds)

-- the digits of a number with n digits after the first
digits_are : (k n v : ℕ) (ds : List ℕ) → n ≤ k → 2 ^ (6 * n) ≤ v → v < 2 ^ (6 * n + 6) → digits_before (suc k) v ds ≡ v / 2 ^ (6 * n) ∷ (last_digits n v ++ ds)
unfolding digits_before last_digits
digits_are zero (suc n) v ds few low high = elim few [ ]
digits_are k zero v ds few low high = rw (ne_eqb v 0 (λ z. absurd (omega arith)), mod-eq_of_lt high, div-eq_of_lt high, div-one v) (none k)
  where
    none : (k : ℕ) → digits_before k 0 (v ∷ ds) ≡ v ∷ ds
    none zero = refl
    none (suc k) = refl
digits_are (suc k) (suc n) v ds few low high =
    let more : 64 * 2 ^ (6 * n) ≡ 2 ^ (6 * suc n) = sym (pow-add 2 6 (6 * n)) ∙ ap (λ (k : ℕ). 2 ^ k) (omega arith) in
    let most : 64 * 2 ^ (6 * n + 6) ≡ 2 ^ (6 * suc n + 6) = sym (pow-add 2 6 (6 * n + 6)) ∙ ap (λ (k : ℕ). 2 ^ k) (omega arith) in
    let positive = pow_pos (6 * n) in
    rw (ne_eqb v 0 (λ z. absurd (omega arith)))
    (digits_are k n (v / 64) (v % 64 ∷ ds) (omega arith) (omega arith) (omega arith)
    ∙ ap (λ (x : ℕ). x ∷ (last_digits n (v / 64) ++ (v % 64 ∷ ds))) (shifted n v)
    ∙ ap (λ (xs : List ℕ). v / 2 ^ (6 * suc n) ∷ xs) (last_digit n v ds))

fields_are : (n v : ℕ) → map (λ (y : ℕ). record { 0 = y - 1 }) (last_digits n v ++ []) ≡ last_names n v
unfolding last_digits last_names name_at
fields_are zero v = refl
fields_are (suc n) v = ap (λ (fs : List FieldName). name_at v (6 * n) ∷ fs) (fields_are n v)

-- what is known of a reference, by the bits that follow its first digit
module _ (v : ℕ) (h : is_reference v ≡ true) {bits : ℕ} (f : Following v bits) where
  low : 2 ^ (6 * f.count) ≤ v
  low = subst (λ (k : ℕ). 2 ^ k ≤ v) f.whole f.low

  -- six digits at most
  few : f.count ≤ 5
  few = by_leb (λ _. f.count ≤ 5) f.count 5 (λ s. s)
      (λ more. let most : 2 ^ 36 ≤ 2 ^ (6 * f.count) = pow_mono {i = 36} {j = 6 * f.count} (omega arith) in
      absurd (omega (arith, reference_small v h, low, most)))

  digits : digits_of v ≡ v / 2 ^ (6 * f.count) ∷ (last_digits f.count v ++ [])
  unfolding digits_of
  digits = digits_are 5 f.count v [] few low (subst (λ (k : ℕ). v < 2 ^ (k + 6)) f.whole f.high)

  starts : (names_bug (v / 2 ^ (6 * f.count)) && name_fields (last_digits f.count v ++ [])) ≡ true
  unfolding is_reference starts_with_bug
  starts = subst (λ (ds : List ℕ). starts_with_bug ds ≡ true) digits (and_true (ltb v (64 ^ 6)) (starts_with_bug (digits_of v)) h).1

  -- the first digit names the bug
  pub bug_digit : (11 ≤ v / 2 ^ bits) × (v / 2 ^ bits ≤ 36)
  unfolding names_bug
  bug_digit = subst (λ (k : ℕ). (11 ≤ v / 2 ^ k) × (v / 2 ^ k ≤ 36)) (sym f.whole) (name_range 11 _ (and_true _ _ starts).0)

  pub reference_is : record { bug = record { 0 = v / 2 ^ bits - 11 }; fields = last_names f.count v } ≡ reference_of v
  unfolding reference_of named
  reference_is =
      sym
      (ap named digits
      ∙ ap (λ (fs : List FieldName). record { bug = record { 0 = v / 2 ^ (6 * f.count) - 11 }; fields = fs }) (fields_are f.count v)
      ∙ ap (λ (k : ℕ). record { bug = record { 0 = v / 2 ^ k - 11 }; fields = last_names f.count v }) (sym f.whole))

  -- each digit after it names a field
  pub field_digit : (n : ℕ) → n < f.count → (1 ≤ v / 2 ^ (6 * n) % 64) × (v / 2 ^ (6 * n) % 64 ≤ 36)
  unfolding names_field last_digits name_fields
  field_digit n less =
      name_range 1 _ (go f.count n less (and_true (names_bug (v / 2 ^ (6 * f.count))) (name_fields (last_digits f.count v ++ [])) starts).1)
    where
      parts : (m : ℕ) → name_fields (last_digits (suc m) v ++ []) ≡ true
          → (names_field (v / 2 ^ (6 * m) % 64) ≡ true) × (name_fields (last_digits m v ++ []) ≡ true)
      parts m k = and_true (names_field (v / 2 ^ (6 * m) % 64)) (name_fields (last_digits m v ++ [])) k

      go : (m n : ℕ) → n < m → name_fields (last_digits m v ++ []) ≡ true → names_field (v / 2 ^ (6 * n) % 64) ≡ true
      go zero n less k = absurd (omega arith)
      go (suc m) n less k =
          by_eqb (λ _. names_field (v / 2 ^ (6 * n) % 64) ≡ true) n m
          (λ same. subst (λ (j : ℕ). names_field (v / 2 ^ (6 * j) % 64) ≡ true) (sym same) (parts m k).0)
          (λ other. go m n (omega arith) (parts m k).1)

-- where the first digit stands, by the leading zeros
pub following : (v : ℕ) → is_reference v ≡ true → Following v ((63 - count_leading_zeros 64 v) / 6 * 6)
following v h =
    let (j, sum, low, high) = leading_top 64 v (reference_positive v h) (omega (arith, reference_small v h)) in
    let is : 63 - count_leading_zeros 64 v ≡ j = omega arith in
    record {
      count = j / 6;
      whole = rw is (omega arith);
      low = rw is (le_trans (pow_mono (omega arith)) low);
      high = rw is (lt_of_lt_of_le high (pow_mono (omega arith)));
    }

pub leading_63 : (v : ℕ) → is_reference v ≡ true → count_leading_zeros 64 v ≤ 63
leading_63 v h = let (j, sum, _, _) = leading_top 64 v (reference_positive v h) (omega (arith, reference_small v h)) in omega arith

-- at most 30 bits follow
pub few_bits : (v : ℕ) → is_reference v ≡ true → {bits : ℕ} → Following v bits → bits ≤ 30
few_bits v h f = omega (arith, few v h f, f.whole)

-- a later digit
pub later_digit : (v : ℕ) → is_reference v ≡ true → {bits : ℕ} → FollowingLater v bits → (1 ≤ v / 2 ^ bits % 64) × (v / 2 ^ bits % 64 ≤ 36)
later_digit v h f =
    subst (λ (k : ℕ). (1 ≤ v / 2 ^ k % 64) × (v / 2 ^ k % 64 ≤ 36)) (sym f.whole)
    (field_digit v h f.first f.count (omega (arith, f.whole, f.later, f.first.whole)))
