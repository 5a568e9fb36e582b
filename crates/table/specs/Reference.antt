-- References as numbers: a bug, then up to five field names, each name's number plus one a base-64 digit, first name first.
-- Document 01: "Fields and references" and "The table". Assumes nothing.
use Rattle.std.specs.Prelude.{ℕ, zero, suc, ◌+◌, ◌-◌, ◌*◌, ◌/◌, ◌%◌, ◌^◌, ◌≤◌, ◌<◌, Bool, true, false, ◌&&◌, cond, List, [], ◌∷◌, map, ◌≡◌, eqb, leb, ltb, drop}
use Rattle.table.specs.declared.BugLetter.{BugLetter}
use Rattle.table.specs.declared.FieldName.{FieldName}
use Rattle.table.specs.declared.Names.{Names}

-- a reference taken apart
pub record Reference : Type 0 where
  pub bug : BugLetter
  pub fields : List FieldName

-- the base-64 digits of v before those in ds, first digit first; at most k of them
unfoldable pub digits_before : ℕ → ℕ → List ℕ → List ℕ
digits_before zero v ds = ds
digits_before (suc k) v ds = cond (eqb v 0) ds (digits_before k (v / 64) (v % 64 ∷ ds))

unfoldable pub digits_of : ℕ → List ℕ
digits_of v = digits_before 6 v []

-- a digit that names something: 0-9 and A-Z have the digits 1 to 36, the letters alone 11 to 36
unfoldable pub names : ℕ → ℕ → Bool
names lowest x = leb lowest x && leb x 36

unfoldable pub names_field : ℕ → Bool
names_field = names 1

unfoldable pub names_bug : ℕ → Bool
names_bug = names 11

unfoldable pub name_fields : List ℕ → Bool
name_fields [] = true
name_fields (x ∷ xs) = names_field x && name_fields xs

unfoldable pub starts_with_bug : List ℕ → Bool
starts_with_bug [] = false
starts_with_bug (x ∷ xs) = names_bug x && name_fields xs

-- v is a reference: six digits at most, the first a bug's, the others fields'
unfoldable pub is_reference : ℕ → Bool
is_reference v = ltb v (64 ^ 6) && starts_with_bug (digits_of v)

unfoldable pub named : List ℕ → Reference
named [] = record { bug = record { 0 = 0 }; fields = [] }
named (x ∷ xs) = record { bug = record { 0 = x - 11 }; fields = map (λ y. record { 0 = y - 1 }) xs }

-- the names of a reference
unfoldable pub reference_of : ℕ → Reference
reference_of v = named (digits_of v)

-- the reference that names taken apart stand for
unfoldable pub names_of : Names → Reference
names_of x = record { bug = x.bug; fields = drop x.from x.fields }

-- so many bits of v follow its first digit, six for each digit
pub record Following (v bits : ℕ) : Type 0 where
  pub count : ℕ
  pub whole : bits ≡ 6 * count
  pub low : 2 ^ bits ≤ v
  pub high : v < 2 ^ (bits + 6)

-- so many bits of v follow a later digit
pub record FollowingLater (v bits : ℕ) : Type 0 where
  pub count : ℕ
  pub whole : bits ≡ 6 * count
  pub all : ℕ
  pub later : bits < all
  pub first : Following v all

-- the field that the digit names which so many bits follow
unfoldable pub name_at : ℕ → ℕ → FieldName
name_at v bits = record { 0 = v / 2 ^ bits % 64 - 1 }
