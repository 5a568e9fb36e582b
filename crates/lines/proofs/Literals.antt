-- How a loop reads a number literal, and the place of a mode word. Assumes nothing.
use Prim.Native.Nat.{ℕ, suc, ◌+◌, ◌-◌, ◌*◌, ◌^◌, ◌≤◌, ◌<◌}
use native.Mathlib.Nat.{mul-le-mul_left, pow-le-pow_right}
use lib.Pow.{pow_pos}
use native.Mathlib.Omega.{arith}
use mathlib.Core.Path.{◌≡◌, refl, ap, sym, ◌∙◌}
use mathlib.Core.Bool.{Bool, true, false, not, ◌&&◌, ◌||◌, cond}
use mathlib.Core.List.{List, [], ◌∷◌, map}
use borrow.Author.Tests.{lt-ltb, le-ltb, leb-true}
use lib.Dec.{eqb, ltb, leb, eqb-zero-suc, eqb-suc-suc}
use lib.ListN.{length, drop, get_or}
use lib.Seq.{drop-cons, drop-length}
use Rattle.word.proofs.Tests.{by_test, and_true, and_false}
use Rattle.character.specs.Character.{number}
use Rattle.lines.specs.Words.{same, is_empty, all, any, mode_words, is_mode, is_digit, is_octal_digit, literal, is_decimal, is_octal}
use Rattle.lines.specs.Reading.{place_of}
use Rattle.lines.specs.Walking.{is_digit_of, is_number}

pub and_right : (t : Bool) → (t && true) ≡ t
and_right true = refl
and_right false = refl

pub and_assoc : (r s t : Bool) → ((r && s) && t) ≡ (r && (s && t))
and_assoc true s t = refl
and_assoc false s t = refl

-- a word is none of some words exactly when its place is their number
pub no_place : (w : List ℕ) (vs : List (List ℕ)) → eqb (place_of w vs) (length vs) ≡ not (any (same w) vs)
unfolding place_of any
no_place w [] = refl
no_place w (v ∷ vs) =
    by_test (λ t. eqb (cond t 0 (suc (place_of w vs))) (suc (length vs)) ≡ not (t || any (same w) vs)) (same w v) (λ _. eqb-zero-suc (length vs))
    (λ _. eqb-suc-suc (place_of w vs) (length vs) ∙ no_place w vs)

pub no_mode : (w : List ℕ) → eqb (place_of w mode_words) 5 ≡ not (is_mode w)
unfolding is_mode mode_words
no_mode w = no_place w mode_words

-- digits make a number no smaller
pub number_grows : (base m : ℕ) (xs : List ℕ) → 1 ≤ base → m ≤ number base m xs
unfolding number
number_grows base m [] h = omega arith
number_grows base m (x ∷ xs) h =
    let more = number_grows base (m * base + x) xs h in
    let times : m * 1 ≤ m * base = mul-le-mul_left m h in
    omega arith

abbrev digit_of : ℕ → ℕ
digit_of x = x - 48

module _ (base limit : ℕ) (w : List ℕ) where
  -- the digits passed have the value v
  pub record Valued (v i : ℕ) : Type 0 where
    pub inside : i ≤ length w
    pub digits : all (is_digit_of base) (drop i w) ≡ all (is_digit_of base) w
    pub value : number base v (map digit_of (drop i w)) ≡ literal base w
    pub small : v < limit

  pub valued_none : 1 ≤ limit → Valued 0 0
  unfolding literal
  valued_none h = record { inside = omega arith; digits = refl; value = refl; small = h }

  digits_more : (i : ℕ) → i < length w → is_digit_of base (get_or w i 0) ≡ true → all (is_digit_of base) (drop i w) ≡ all (is_digit_of base) (drop (suc i) w)
  unfolding all
  digits_more i l e = rw (drop-cons w i 0 l, e)

  digits_not : (i : ℕ) → i < length w → is_digit_of base (get_or w i 0) ≡ false → all (is_digit_of base) (drop i w) ≡ false
  unfolding all
  digits_not i l e = rw (drop-cons w i 0 l, e)

  value_more : (v i : ℕ) → i < length w → number base v (map digit_of (drop i w)) ≡ number base (v * base + (get_or w i 0 - 48)) (map digit_of (drop (suc i) w))
  unfolding number
  value_more v i l = rw (drop-cons w i 0 l)

  pub digit_least : (x : ℕ) → is_digit_of base x ≡ true → 48 ≤ x
  unfolding is_digit_of
  digit_least x e = leb-true 48 x (and_true (leb 48 x) (leb x (47 + base)) e).0

  pub valued_more : {v i : ℕ} → Valued v i → i < length w → is_digit_of base (get_or w i 0) ≡ true → v * base + get_or w i 0 - 48 < limit
      → Valued (v * base + get_or w i 0 - 48) (i + 1)
  valued_more {v} {i} h l e s =
      let one : i + 1 ≡ suc i = omega arith in
      let least = digit_least (get_or w i 0) e in
      let same_value : v * base + get_or w i 0 - 48 ≡ v * base + (get_or w i 0 - 48) = omega arith in
      record {
        inside = omega arith;
        digits = rw one (sym (digits_more i l e) ∙ h.digits);
        value = rw (one, same_value) (sym (value_more v i l) ∙ h.value);
        small = s;
      }

  pub valued_not : {v i : ℕ} → Valued v i → i < length w → is_digit_of base (get_or w i 0) ≡ false → false ≡ is_number base limit w
  unfolding is_number
  valued_not {v} {i} h l e =
      let none : all (is_digit_of base) w ≡ false = sym h.digits ∙ digits_not i l e in
      rw none (sym (and_false (not (is_empty w))))

  pub valued_over : {v i : ℕ} → 1 ≤ base → Valued v i → i < length w → is_digit_of base (get_or w i 0) ≡ true → limit ≤ v * base + get_or w i 0 - 48
      → false ≡ is_number base limit w
  unfolding is_number
  valued_over {v} {i} b h l e s =
      let least = digit_least (get_or w i 0) e in
      let grown = number_grows base (v * base + (get_or w i 0 - 48)) (map digit_of (drop (suc i) w)) b in
      let all_of = h.value in
      let over : ltb (literal base w) limit ≡ false = le-ltb (literal base w) limit (omega (arith, sym (value_more v i l))) in
      rw over (sym (both_false (not (is_empty w)) (all (is_digit_of base) w)))
    where
      both_false : (s t : Bool) → (s && (t && false)) ≡ false
      both_false s t = rw (and_false t) (and_false s)

  all_nothing : all (is_digit_of base) [] ≡ true
  unfolding all
  all_nothing = refl

  number_nothing : (v : ℕ) → number base v [] ≡ v
  unfolding number
  number_nothing v = refl

  pub valued_all : {v i : ℕ} → Valued v i → length w ≤ i → not (is_empty w) ≡ is_number base limit w
  unfolding is_number
  valued_all {v} {i} h l =
      let inside = h.inside in
      let last : i ≡ length w = omega arith in
      let gone : drop i w ≡ [] = ap (λ (k : ℕ). drop k w) last ∙ drop-length w in
      let every : all (is_digit_of base) w ≡ true = sym h.digits ∙ ap (all (is_digit_of base)) gone ∙ all_nothing in
      let is : literal base w ≡ v = sym h.value ∙ ap (λ (s : List ℕ). number base v (map digit_of s)) gone ∙ number_nothing v in
      let below : ltb (literal base w) limit ≡ true = rw is (lt-ltb v limit h.small) in
      rw (every, below) (sym (and_right (not (is_empty w))))

pub decimal_number : (b : ℕ) (w : List ℕ) → is_decimal b w ≡ is_number 10 (2 ^ b) w
unfolding is_decimal is_number is_digit is_digit_of
decimal_number b w = refl

pub octal_number : (b : ℕ) (w : List ℕ) → is_octal b w ≡ is_number 8 (2 ^ b) w
unfolding is_octal is_number is_octal_digit is_digit_of
octal_number b w = refl

-- the numbers of a width
pub some_numbers : (b : ℕ) → 1 ≤ 2 ^ b
some_numbers b = pow_pos b

pub wide_enough : (b : ℕ) → b ≤ 48 → 2 ^ b ≤ 2 ^ 48
wide_enough b h = pow-le-pow_right (omega arith) h
