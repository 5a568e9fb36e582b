-- What arguments become are operands that the table check takes: a field designator is a reference, a literal is below 2 ^ b. Assumes nothing.
use Prim.Native.Nat.{ℕ, zero, suc, ◌+◌, ◌-◌, ◌*◌, ◌/◌, ◌%◌, ◌^◌, ◌≤◌, ◌<◌}
use native.Mathlib.Nat.{pow-le-pow_right, le_trans}
use native.Mathlib.Omega.{arith}
use mathlib.Core.Path.{◌≡◌, refl, ap, ◌∙◌}
use mathlib.Core.Bool.{Bool, true, false, not, ◌&&◌, ◌||◌, cond}
use mathlib.Core.List.{List, [], ◌∷◌, ◌++◌, append-nil, map}
use borrow.Author.Tests.{ne_eqb, leb-true, lt-ltb, le-leb, lt-leb}
use lib.Dec.{leb, ltb}
use lib.ListN.{length, length-map}
use Rattle.word.proofs.Tests.{by_test, by_eqb, and_true, and_false, either_way}
use Rattle.character.specs.Character.{number, packed, all_below, period, code_of}
use Rattle.character.proofs.RoundTrip.{packed_lt}
use Rattle.character.proofs.Digits.{power_of}
use Rattle.table.specs.Reference.{digits_before, digits_of, names, names_field, names_bug, name_fields, starts_with_bug, is_reference}
use Rattle.lines.specs.Words.{is_empty, all, is_digit, is_octal_digit, is_letter, is_name, is_character, name_number, character_code}
use Rattle.lines.specs.Words.{starts_with, literal, is_field, is_decimal, is_octal, is_hollerith}
use Rattle.lines.proofs.Lists.{true_false, and_both, all_first, all_others}

last_digit : (k m x : ℕ) (ds : List ℕ) → 1 ≤ x → x ≤ 36 → digits_before (suc k) (m * 64 + x) ds ≡ digits_before k m (x ∷ ds)
unfolding digits_before
last_digit k m x ds low high =
    let rest : (m * 64 + x) / 64 ≡ m = omega arith in
    let last : (m * 64 + x) % 64 ≡ x = omega arith in
    rw (ne_eqb (m * 64 + x) 0 (λ e. absurd (omega arith)), rest, last)

-- base-64 digits that are not zero are found again in their number
digits_found : (ds acc : List ℕ) (k m : ℕ) → name_fields ds ≡ true → digits_before (k + length ds) (number 64 m ds) acc ≡ digits_before k m (ds ++ acc)
unfolding number name_fields names_field names
digits_found [] acc k m e = ap (λ (n : ℕ). digits_before n m acc) (omega arith)
digits_found (x ∷ ds) acc k m e =
    let (here, later) = and_true (leb 1 x && leb x 36) (name_fields ds) e in
    let (low, high) = and_true (leb 1 x) (leb x 36) here in
    ap (λ (n : ℕ). digits_before n (number 64 (m * 64 + x) ds) acc) (omega arith)
    ∙ digits_found ds acc (suc k) (m * 64 + x) later
    ∙ last_digit k m x (ds ++ acc) (leb-true 1 x low) (leb-true x 36 high)

no_digits : (k : ℕ) (ds : List ℕ) → digits_before k 0 ds ≡ ds
unfolding digits_before
no_digits zero ds = refl
no_digits (suc k) ds = refl

packed_digits : (ds : List ℕ) → length ds ≤ 6 → name_fields ds ≡ true → digits_of (packed ds) ≡ ds
unfolding digits_of packed
packed_digits ds short e =
    ap (λ (n : ℕ). digits_before n (number 64 0 ds) []) (omega arith)
    ∙ digits_found ds [] (6 - length ds) 0 e
    ∙ no_digits (6 - length ds) (ds ++ [])
    ∙ append-nil ds

-- a name byte's digit is 1 to 36, a letter's 11 to 36
pub record Digit (lowest x : ℕ) : Type 0 where
  pub low : lowest ≤ suc (name_number x)
  pub high : name_number x ≤ 35

letter_digit : (x : ℕ) → is_letter x ≡ true → Digit 11 x
unfolding is_letter name_number is_digit
letter_digit x e =
    let (low, high) = and_true (leb 65 x) (leb x 90) e in
    let l = leb-true 65 x low in
    let h = leb-true x 90 high in
    let other : (leb 48 x && leb x 57) ≡ false = rw (lt-leb x 57 (omega arith)) (and_false (leb 48 x)) in
    record { low = rw other (omega arith); high = rw other (omega arith) }

digit_digit : (x : ℕ) → is_digit x ≡ true → Digit 1 x
unfolding name_number is_digit
digit_digit x e =
    let (low, high) = and_true (leb 48 x) (leb x 57) e in
    let l = leb-true 48 x low in
    let h = leb-true x 57 high in
    record { low = omega arith; high = rw e (omega arith) }

pub name_digit : (x : ℕ) → is_name x ≡ true → Digit 1 x
unfolding is_name
name_digit x =
    by_test (λ t. is_digit x ≡ t → (t || is_letter x) ≡ true → Digit 1 x) (is_digit x)
    (λ _ is _. digit_digit x is)
    (λ _ _ e. let d = letter_digit x e in record { low = omega arith; high = d.high }) refl

abbrev digits_of_name : List ℕ → List ℕ
digits_of_name w = map (λ x. suc (name_number x)) w

digit_names : (lowest x : ℕ) → Digit lowest x → names lowest (suc (name_number x)) ≡ true
unfolding names
digit_names lowest x d = and_both (le-leb lowest (suc (name_number x)) d.low) (le-leb (suc (name_number x)) 36 (omega (arith, d.high)))

fields_named : (w : List ℕ) → all is_name w ≡ true → name_fields (digits_of_name w) ≡ true
unfolding name_fields names_field
fields_named [] e = refl
fields_named (x ∷ w) e = and_both (digit_names 1 x (name_digit x (all_first is_name x w e))) (fields_named w (all_others is_name x w e))

bug_named : (w : List ℕ) → starts_with is_letter w ≡ true → all is_name w ≡ true → starts_with_bug (digits_of_name w) ≡ true
unfolding starts_with starts_with_bug names_bug
bug_named [] s e = absurd (true_false s refl)
bug_named (x ∷ w) s e = and_both (digit_names 11 x (letter_digit x s)) (fields_named w (all_others is_name x w e))

fields_below : (w : List ℕ) → all is_name w ≡ true → all_below 64 (digits_of_name w) ≡ true
unfolding all_below
fields_below [] e = refl
fields_below (x ∷ w) e =
    and_both (lt-ltb (suc (name_number x)) 64 (omega (arith, (name_digit x (all_first is_name x w e)).high))) (fields_below w (all_others is_name x w e))

-- a field designator is a reference
pub field_reference : (w : List ℕ) → is_field w ≡ true → is_reference (packed (digits_of_name w)) ≡ true
unfolding is_field is_reference
field_reference w e =
    let (letter, rest) = and_true (starts_with is_letter w) (leb (length w) 6 && all is_name w) e in
    let (short, named) = and_true (leb (length w) 6) (all is_name w) rest in
    let s = leb-true (length w) 6 short in
    let long = length-map w (λ (x : ℕ). suc (name_number x)) in
    let few : length (digits_of_name w) ≤ 6 = omega arith in
    and_both (lt-ltb (packed (digits_of_name w)) (64 ^ 6)
    (le_trans (packed_lt (digits_of_name w) (fields_below w named)) (pow-le-pow_right {n = 64} (omega arith) few)))
    (rw (packed_digits (digits_of_name w) few (fields_named w named)) (bug_named w letter named))

-- a number literal fits a word
last_of : (r s t : Bool) → (r && (s && t)) ≡ true → t ≡ true
last_of r s t e = (and_true s t (and_true r (s && t) e).1).1

pub decimal_small : (b : ℕ) (w : List ℕ) → is_decimal b w ≡ true → ltb (literal 10 w) (2 ^ b) ≡ true
unfolding is_decimal
decimal_small b w e = last_of (not (is_empty w)) (all is_digit w) (ltb (literal 10 w) (2 ^ b)) e

pub octal_small : (b : ℕ) (w : List ℕ) → is_octal b w ≡ true → ltb (literal 8 w) (2 ^ b) ≡ true
unfolding is_octal
octal_small b w e = last_of (not (is_empty w)) (all is_octal_digit w) (ltb (literal 8 w) (2 ^ b)) e

-- a Hollerith literal fits a word
name_code : (n : ℕ) → n ≤ 35 → code_of n < 64
unfolding code_of
name_code n h =
    either_way (λ (c : ℕ). c < 64) (ltb n 10) (omega arith)
    (either_way (λ (c : ℕ). c < 64) (ltb n 19) (omega arith)
    (either_way (λ (c : ℕ). c < 64) (ltb n 28) (omega arith) (omega arith)))

or_first : (t : Bool) → (t || false) ≡ true → t ≡ true
or_first true e = refl
or_first false e = e

code_below : (x : ℕ) → is_character x ≡ true → character_code x < 64
unfolding is_character character_code period
code_below x =
    by_eqb (λ t. (is_name x || t) ≡ true → cond t 27 (code_of (name_number x)) < 64) x 46
    (λ _ _. omega arith)
    (λ _ e. name_code (name_number x) (name_digit x (or_first (is_name x) e)).high)

codes_below : (w : List ℕ) → all is_character w ≡ true → all_below 64 (map character_code w) ≡ true
unfolding all_below
codes_below [] e = refl
codes_below (x ∷ w) e = and_both (lt-ltb (character_code x) 64 (code_below x (all_first is_character x w e))) (codes_below w (all_others is_character x w e))

pub hollerith_small : (b : ℕ) (w : List ℕ) → is_hollerith b w ≡ true → packed (map character_code w) < 2 ^ b
unfolding is_hollerith
hollerith_small b w e =
    let (filled, rest) = and_true (not (is_empty w)) (leb (length w) (b / 6) && all is_character w) e in
    let (short, good) = and_true (leb (length w) (b / 6)) (all is_character w) rest in
    let s = leb-true (length w) (b / 6) short in
    let long = length-map w character_code in
    let small : 6 * length (map character_code w) ≤ b = omega arith in
    le_trans (packed_lt (map character_code w) (codes_below w good))
    (rw (power_of 2 6 (length (map character_code w))) (pow-le-pow_right {n = 2} (omega arith) small))
