-- The values of arguments: each fits, and is that of its kind. Assumes nothing.
use Prim.Native.Nat.{ℕ, suc, ◌+◌, ◌-◌, ◌*◌, ◌^◌, ◌≤◌, ◌<◌}
use native.Mathlib.Omega.{arith}
use mathlib.Core.Path.{◌≡◌, refl, ap, ap₂, sym, subst, ◌∙◌}
use mathlib.Core.Bool.{true, false, ◌||◌}
use mathlib.Core.List.{List, [], ◌∷◌, ◌++◌, map}
use borrow.Author.Tests.{ltb-true}
use lib.Dec.{ltb}
use lib.ListN.{length, drop, get_or, drop_of_length-le}
use lib.Seq.{drop-cons}
use Rattle.std.specs.Prelude.{slice_get, unwrap_or}
use Rattle.word.proofs.Tests.{and_true}
use Rattle.character.specs.Character.{number, packed}
use Rattle.table.specs.Reference.{is_reference, starts_with_bug, digits_of}
use Rattle.table.specs.declared.Pair.{Pair}
use Rattle.lines.specs.Words.{character_code, literal, last_byte_of, is_field, is_decimal, is_octal, is_hollerith}
use Rattle.lines.specs.Words.{field_pair}
use Rattle.lines.specs.declared.Kind.{Kind}
use Rattle.lines.specs.declared.Kind.TheVariants.{Field, Decimal, Octal, Hollerith}
use Rattle.typed.specs.Values.{base_of, digit_as, value_from}
use Rattle.typed.specs.Putting.{moved_row}
use Rattle.lines.proofs.Literals.{number_grows, wide_enough}
use Rattle.lines.proofs.Operands.{field_reference, decimal_small, octal_small, hollerith_small}

some_base : (kind : Kind) → 1 ≤ base_of kind
unfolding base_of
some_base Decimal = omega arith
some_base Octal = omega arith
some_base _ = omega arith

module _ (kind : Kind) (before : ℕ) (w : List ℕ) where
  pub record Valuing (v i : ℕ) : Type 0 where
    pub inside : i ≤ length w
    pub rest : value_from kind v (drop i w) ≡ value_from kind before w

  pub valuing_none : Valuing before 0
  valuing_none = record { inside = omega arith; rest = refl }

  module _ {v i : ℕ} (h : Valuing v i) where
    next_digit : i < length w → value_from kind v (drop i w) ≡ value_from kind (v * base_of kind + digit_as kind (get_or w i 0)) (drop (suc i) w)
    unfolding value_from number
    next_digit l = rw (drop-cons w i 0 l)

    grown : v * base_of kind + digit_as kind (get_or w i 0) ≤ value_from kind (v * base_of kind + digit_as kind (get_or w i 0)) (drop (suc i) w)
    unfolding value_from
    grown = number_grows (base_of kind) (v * base_of kind + digit_as kind (get_or w i 0)) (map (digit_as kind) (drop (suc i) w)) (some_base kind)

    pub valuing_small : i < length w → v * base_of kind + digit_as kind (get_or w i 0) ≤ value_from kind before w
    valuing_small l = subst (λ (n : ℕ). v * base_of kind + digit_as kind (get_or w i 0) ≤ n) (sym (next_digit l) ∙ h.rest) grown

    pub valuing_more : i < length w → Valuing (v * base_of kind + digit_as kind (get_or w i 0)) (i + 1)
    valuing_more l =
        let one : i + 1 ≡ suc i = omega arith in
        record { inside = omega arith; rest = rw one (sym (next_digit l) ∙ h.rest) }

    nothing : value_from kind v [] ≡ v
    unfolding value_from number
    nothing = refl

    pub valuing_all : length w ≤ i → v ≡ value_from kind before w
    valuing_all l = sym (ap (value_from kind v) (drop_of_length-le w l) ∙ nothing) ∙ h.rest

-- the last byte of a word
pub last_byte_lem : (w : List ℕ) → unwrap_or (slice_get w (length w - 1)) 0 ≡ last_byte_of w
unfolding last_byte_of
last_byte_lem [] = refl
last_byte_lem (x ∷ []) = refl
last_byte_lem (x ∷ y ∷ w) = let less : length (x ∷ y ∷ w) - 1 ≡ suc (length (y ∷ w) - 1) = omega arith in rw less (last_byte_lem (y ∷ w))

-- the digit of a kind that is neither a reference nor a Hollerith literal
pub digit_other : (kind : Kind) (x : ℕ) → (kind ≡ Field → ⊥) → (kind ≡ Hollerith → ⊥) → digit_as kind x ≡ x - 48
unfolding digit_as
digit_other Field x f h = absurd (f refl)
digit_other Hollerith x f h = absurd (h refl)
digit_other _ x f h = refl

-- values by the names of their kinds
pub field_value : (w : List ℕ) → (field_pair w).value ≡ value_from Field 0 w
unfolding value_from base_of digit_as packed
field_value w = refl

pub decimal_value : (w : List ℕ) → literal 10 w ≡ value_from Decimal 0 w
unfolding value_from base_of digit_as literal
decimal_value w = refl

pub octal_value : (w : List ℕ) → literal 8 w ≡ value_from Octal 0 w
unfolding value_from base_of digit_as literal
octal_value w = refl

pub hollerith_value : (w : List ℕ) → packed (map character_code w) ≡ value_from Hollerith 0 w
unfolding value_from base_of digit_as packed
hollerith_value w = refl

pub field_small : (w : List ℕ) → is_field w ≡ true → value_from Field 0 w < 2 ^ 48
unfolding is_reference
field_small w e =
    let n = value_from Field 0 w in
    let is : is_reference n ≡ true = subst (λ (m : ℕ). is_reference m ≡ true) (field_value w) (field_reference w e) in
    let small = ltb-true n (64 ^ 6) (and_true (ltb n (64 ^ 6)) (starts_with_bug (digits_of n)) is).0 in
    omega arith

module _ (b : ℕ) (w : List ℕ) (width : b ≤ 48) where
  pub decimal_below : is_decimal b w ≡ true → value_from Decimal 0 w < 2 ^ 48
  decimal_below e = let wide = wide_enough b width in let small = ltb-true (literal 10 w) (2 ^ b) (decimal_small b w e) in omega (arith, decimal_value w)

  pub octal_below : is_octal b w ≡ true → value_from Octal 0 w < 2 ^ 48
  octal_below e = let wide = wide_enough b width in let small = ltb-true (literal 8 w) (2 ^ b) (octal_small b w e) in omega (arith, octal_value w)

  pub hollerith_below : is_hollerith b w ≡ true → value_from Hollerith 0 w < 2 ^ 48
  hollerith_below e = let wide = wide_enough b width in let small = hollerith_small b w e in omega (arith, hollerith_value w)

  pub either_decimal : (is_field w || is_decimal b w) ≡ true → is_field w ≡ false → value_from Decimal 0 w < 2 ^ 48
  either_decimal e f = decimal_below (rw f at e)

  pub either_octal : (is_field w || is_octal b w) ≡ true → is_field w ≡ false → value_from Octal 0 w < 2 ^ 48
  either_octal e f = octal_below (rw f at e)

-- a pair by its numbers
pub pair_is : {p : Pair} {f v m : ℕ} → p.form ≡ f → p.value ≡ v → v ≡ m → p ≡ record { form = f; value = m }
pair_is e g h = ap₂ (λ (x y : ℕ). record { form = x; value = y }) e (g ∙ h)

-- a reference with more names
value_more : (kind : Kind) (m : ℕ) (v w : List ℕ) → value_from kind m (v ++ w) ≡ value_from kind (value_from kind m v) w
unfolding value_from number
value_more kind m [] w = refl
value_more kind m (x ∷ v) w = value_more kind (m * base_of kind + digit_as kind x) v w

module _ (a names : List ℕ) where
  pub moved_value : {v : ℕ} → v ≡ value_from Field 0 a → value_from Field v names ≡ value_from Field 0 (a ++ names)
  moved_value e = ap (λ (n : ℕ). value_from Field n names) e ∙ sym (value_more Field 0 a names)

  pub moved_small : {v : ℕ} → v ≡ value_from Field 0 a → is_field (a ++ names) ≡ true → value_from Field v names < 2 ^ 48
  moved_small e is = rw (moved_value e) (field_small (a ++ names) is)

  pub moved_made : (next v w : ℕ) → v ≡ value_from Field 0 a → w ≡ value_from Field v names → record {
    kind = 3;
    next = next;
    code = 6;
    name = 0;
    first = record { form = 2; value = v };
    second = record { form = 2; value = w };
    third = record { form = 0; value = 0 };
  } ≡ moved_row next a names
  unfolding moved_row
  moved_made next v w e f = rw (e ∙ sym (field_value a), f ∙ moved_value e ∙ sym (field_value (a ++ names)))
