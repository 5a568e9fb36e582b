-- The digits of a reference, taken from the right: whether they name a bug and then fields, and which.
-- Assumes nothing.
use Prim.Native.Nat.{ℕ, zero, suc, ◌-◌, ◌*◌, ◌/◌, ◌%◌, ◌^◌, ◌≤◌, ◌<◌}
use native.Mathlib.Nat.{div-eq_of_lt, mod-eq_of_lt, pow-suc}
use native.Mathlib.Omega.{arith}
use mathlib.Core.Bool.{Bool, true, false, ◌&&◌, cond, and-true, false≢true}
use mathlib.Core.List.{List, [], ◌∷◌, map}
use mathlib.Core.Path.{◌≡◌, refl, ap, sym, ◌∙◌}
use borrow.Author.Tests.{lt-ltb, le-ltb, ne_eqb, ltb-true, leb-true}
use lib.Dec.{leb, ltb}
use lib.ListN.{length, drop, set, length-set, drop_of_length-le}
use Rattle.word.proofs.Tests.{by_leb, and_true as both_parts}
use Rattle.table.specs.declared.FieldName.{FieldName}
use Rattle.table.specs.Reference.{digits_before, digits_of, names, names_field, names_bug, name_fields, starts_with_bug, is_reference}
use Rattle.table.specs.Reference.{named, reference_of, names_of}

-- up to k digits name fields, and the first names a bug
unfoldable pub well_named : ℕ → ℕ → Bool
well_named zero v = names_bug v
well_named (suc k) v = cond (ltb v 64) (names_bug v) (names_field (v % 64) && well_named k (v / 64))

-- one digit more in the bound
pub power_64 : (k : ℕ) → 64 ^ suc k ≡ 64 ^ k * 64
power_64 k = pow-suc 64 k

pub one_digit : (v : ℕ) → v < 64 ^ suc 0 → v < 64
one_digit v h = h

pub shorter : (k v : ℕ) → v < 64 ^ suc (suc k) → v / 64 < 64 ^ suc k
shorter k v h = let h' : v < 64 ^ suc k * 64 = rw (← (power_64 (suc k))) h in omega arith

-- a number of one digit
single : (k v : ℕ) (ds : List ℕ) → 0 < v → v < 64 → digits_before (suc k) v ds ≡ v ∷ ds
unfolding digits_before
single zero v ds p h = rw (ne_eqb v 0 (λ z. absurd (omega arith)), mod-eq_of_lt h)
single (suc k) v ds p h = rw (ne_eqb v 0 (λ z. absurd (omega arith)), mod-eq_of_lt h, div-eq_of_lt h)

-- the last digit of a longer one
longer : (k v : ℕ) (ds : List ℕ) → 64 ≤ v → digits_before (suc k) v ds ≡ digits_before k (v / 64) (v % 64 ∷ ds)
unfolding digits_before
longer k v ds h = rw (ne_eqb v 0 (λ z. absurd (omega arith)))

-- the digits name a bug and fields exactly when they are well named from the right
well_named_lem : (k v : ℕ) (ds : List ℕ) → 0 < v → v < 64 ^ suc k → starts_with_bug (digits_before (suc k) v ds) ≡ (well_named k v && name_fields ds)
unfolding starts_with_bug well_named name_fields
well_named_lem zero v ds p h = rw (single zero v ds p h)
well_named_lem (suc k) v ds p h =
    by_leb (λ t. starts_with_bug (digits_before (suc (suc k)) v ds)
    ≡ (cond t (names_bug v) (names_field (v % 64) && well_named k (v / 64)) && name_fields ds)) (suc v) 64
    (λ less. rw (single (suc k) v ds p less))
    (λ more. ap starts_with_bug (longer (suc k) v ds (omega arith))
    ∙ well_named_lem k (v / 64) (v % 64 ∷ ds) (omega arith) (shorter k v h)
    ∙ regroup (well_named k (v / 64)) (names_field (v % 64)) (name_fields ds))
  where
    regroup : (x y z : Bool) → (x && (y && z)) ≡ ((y && x) && z)
    regroup true true z = refl
    regroup true false z = refl
    regroup false true z = refl
    regroup false false z = refl

-- a number of six digits at most
reference_zero : is_reference 0 ≡ well_named 5 0
unfolding is_reference digits_of digits_before starts_with_bug well_named names_bug names
reference_zero = refl

-- a reference has six digits at most
pub reference_small : (v : ℕ) → is_reference v ≡ true → v < 64 ^ 6
unfolding is_reference
reference_small v h = ltb-true v (64 ^ 6) (both_parts (ltb v (64 ^ 6)) (starts_with_bug (digits_of v)) h).0

-- and is not zero
pub reference_positive : (v : ℕ) → is_reference v ≡ true → 0 < v
unfolding well_named names_bug names
reference_positive zero h = absurd (false≢true (sym reference_zero ∙ h))
reference_positive (suc v) h = omega arith

pub is_reference_named : (v : ℕ) → v < 64 ^ 6 → is_reference v ≡ well_named 5 v
unfolding is_reference digits_of name_fields
is_reference_named zero h = reference_zero
is_reference_named (suc v) h = rw (lt-ltb (suc v) (64 ^ 6) h) (well_named_lem 5 (suc v) [] (omega arith) h ∙ and-true _)

-- one digit is left, or one is taken off
pub named_last : (k v : ℕ) → v < 64 → well_named k v ≡ names_bug v
unfolding well_named
named_last zero v h = refl
named_last (suc k) v h = rw (lt-ltb v 64 h)

pub named_next : (k v : ℕ) → 64 ≤ v → well_named (suc k) v ≡ (names_field (v % 64) && well_named k (v / 64))
unfolding well_named
named_next k v h = rw (le-ltb v 64 h)

-- the digit taken off names a field
pub goes_on : (t : Bool) (k v : ℕ) → t ≡ well_named k v → v < 64 ^ suc k → 64 ≤ v → names_field (v % 64) ≡ true
    → (j : ℕ) × (t ≡ well_named j (v / 64)) × (v / 64 < 64 ^ suc j)
goes_on t zero v e l h n = absurd (omega (arith, one_digit v l))
goes_on t (suc j) v e l h n = (j, e ∙ named_next j v h ∙ ap (λ s. s && well_named j (v / 64)) n, shorter j v l)

-- it does not
pub goes_wrong : (t : Bool) (k v : ℕ) → t ≡ well_named k v → v < 64 ^ suc k → 64 ≤ v → names_field (v % 64) ≡ false → false ≡ t
goes_wrong t zero v e l h n = absurd (omega (arith, one_digit v l))
goes_wrong t (suc j) v e l h n = sym (e ∙ named_next j v h ∙ ap (λ s. s && well_named j (v / 64)) n)

-- what is found while a reference is taken apart from the right: the digits ds of the names in fields from place from on
pub record Found (v : ℕ) (fields : List FieldName) (rest from : ℕ) : Type 0 where
  pub ds : List ℕ
  pub digits : digits_of v ≡ digits_before (suc from) rest ds
  pub names : map (λ (y : ℕ). record { 0 = y - 1 }) ds ≡ drop from fields
  pub short : rest < 64 ^ suc from
  pub good : well_named from rest ≡ true
  pub few : from ≤ 5
  pub room : length fields ≡ 5

pub found_first : (v : ℕ) (fields : List FieldName) → is_reference v ≡ true → length fields ≡ 5 → Found v fields v 5
unfolding digits_of
found_first v fields h long =
    record {
      ds = [];
      digits = refl;
      names = sym (drop_of_length-le fields {i = 5} (omega arith));
      short = small;
      good = sym (is_reference_named v small) ∙ h;
      few = omega arith;
      room = long;
    }
  where
    small : v < 64 ^ 6
    small = reference_small v h

-- what is set is what comes first after that place
drop_set : {A : Type 0} (l : List A) (i : ℕ) (a : A) → i < length l → drop i (set l i a) ≡ a ∷ drop (suc i) l
drop_set [] i a h = absurd (omega arith)
drop_set (x ∷ xs) zero a h = refl
drop_set (x ∷ xs) (suc i) a h = drop_set xs i a (omega arith)

-- a digit that names a field is 1 to 36, one that names a bug 11 to 36
pub name_range : (lowest x : ℕ) → names lowest x ≡ true → (lowest ≤ x) × (x ≤ 36)
unfolding names
name_range lowest x h =
    let (low, high) = both_parts (leb lowest x) (leb x 36) h in
    (leb-true lowest x low, leb-true x 36 high)

-- what is known of the last digit where more than one is left
pub record Digit (k v : ℕ) : Type 0 where
  pub before : ℕ
  pub count : k ≡ suc before
  pub low : 1 ≤ v % 64
  pub high : v % 64 ≤ 36
  pub good : well_named before (v / 64) ≡ true
  pub short : v / 64 < 64 ^ suc before

digit : (k v : ℕ) → well_named k v ≡ true → v < 64 ^ suc k → 64 ≤ v → Digit k v
unfolding names_field
digit zero v g l h = absurd (omega (arith, one_digit v l))
digit (suc j) v g l h =
    let (is_field, good) = both_parts (names_field (v % 64)) (well_named j (v / 64)) (sym (named_next j v h) ∙ g) in
    let (low, high) = name_range 1 (v % 64) is_field in
    record { before = j; count = refl; low = low; high = high; good = good; short = shorter j v l }

module _ {v : ℕ} {fields : List FieldName} {rest from : ℕ} (f : Found v fields rest from) where
  -- more than one digit is left
  pub found_digit : 64 ≤ rest → Digit from rest
  found_digit more = digit from rest f.good f.short more

  pub found_pos : 64 ≤ rest → 1 ≤ from
  found_pos more = let d = found_digit more in omega (arith, d.count)

  pub found_next : 64 ≤ rest → Found v (set fields (from - 1) (record { 0 = rest % 64 - 1 })) (rest / 64) (from - 1)
  found_next more =
      let d = found_digit more in
      let less : from - 1 ≡ d.before = omega (arith, d.count) in
      let one_more : from ≡ suc (from - 1) = omega (arith, d.count) in
      record {
        ds = rest % 64 ∷ f.ds;
        digits = f.digits ∙ longer from rest f.ds more ∙ ap (λ (n : ℕ). digits_before n (rest / 64) (rest % 64 ∷ f.ds)) one_more;
        names = ap (λ (xs : List FieldName). record { 0 = rest % 64 - 1 } ∷ xs) (f.names ∙ ap (λ (n : ℕ). drop n fields) one_more)
            ∙ sym (drop_set fields (from - 1) _ (omega (arith, f.few, f.room, d.count)));
        short = rw less d.short;
        good = rw less d.good;
        few = omega (arith, f.few);
        room = length-set fields (from - 1) _ ∙ f.room;
      }

  -- the last digit is the bug's
  pub record Last : Type 0 where
    pub low : 11 ≤ rest
    pub high : rest ≤ 36
    pub whole : names_of (record { bug = record { 0 = rest - 11 }; from = from; fields = fields }) ≡ reference_of v

  pub found_last : rest < 64 → Last
  unfolding names_of reference_of named names_bug
  found_last one =
      let (low, high) = name_range 11 rest (sym (named_last from rest one) ∙ f.good) in
      record {
        low = low;
        high = high;
        whole = sym (ap named (f.digits ∙ single from rest f.ds (omega arith) one)
            ∙ ap (λ (xs : List FieldName). record { bug = record { 0 = rest - 11 }; fields = xs }) f.names);
      }
