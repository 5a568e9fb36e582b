-- Laws of digits and characters: a number from its digits and back, that a conversion from binary and back gives the value, also by way of
-- leading blanks, and how large each result is. Assumes nothing.
use mathlib.Core.Path.{◌≡◌, refl, sym, ap, ap₂, ◌∙◌}
use mathlib.Core.Bool.{Bool, true, false, cond, ◌||◌}
use mathlib.Core.List.{List, [], ◌∷◌}
use mathlib.Core.Option.{none, some}
use Prim.Native.Nat.{ℕ, zero, suc, ◌+◌, ◌*◌, ◌/◌, ◌%◌, ◌^◌, ◌≤◌, ◌<◌, min}
use native.Mathlib.Nat.{zero-add, add-zero, zero-mul, mul-one, one-mul, sub_self, div-one, mod-one, mod-lt, mod-eq_of_lt, pow-zero}
use native.Mathlib.Nat.{pow-suc, pow-succ', one-le-pow, div-div-eq-div-mul, div-lt_iff_lt-mul}
use native.Mathlib.Omega.{arith}
use lib.Arith.{digits_div, digits_mod, mod-mul}
use lib.Dec.{eqb, ltb}
use lib.ListN.{length}
use borrow.Author.Tests.{ltb-true, lt-ltb, eqb-true, eq-eqb, ne_eqb}
use Rattle.word.specs.Word.{is_width}
use Rattle.word.proofs.Tests.{and_true, by_eqb}
use Rattle.character.specs.Character.{digits, number, characters, packed, holds, blank, leading, all_below, printed}
use Rattle.character.specs.Character.{blanks_to_zeros, to_binary, from_binary, zeros_to_blanks}

module _ (base : ℕ) where
  -- the first of digits is below the base, and so are the others
  below_cons : (x : ℕ) (xs : List ℕ) → all_below base (x ∷ xs) ≡ true → (x < base) × (all_below base xs ≡ true)
  unfolding all_below
  below_cons x xs h =
      let (first, others) = and_true (ltb x base) (all_below base xs) h in
      (ltb-true x base first, others)

  -- a base that has these digits is positive, and so is its power for as many places
  below_pos : (xs : List ℕ) → all_below base xs ≡ true → 0 < base ^ length xs
  below_pos [] h = rw pow-zero (omega arith)
  below_pos (x ∷ xs) h = let l = (below_cons x xs h).0 in one-le-pow (suc (length xs)) base (omega arith)

  -- digits below a base are digits of every larger one
  pub below_le : (more : ℕ) (xs : List ℕ) → base ≤ more → all_below base xs ≡ true → all_below more xs ≡ true
  unfolding all_below
  below_le more [] h l = refl
  below_le more (x ∷ xs) h l =
      let (first, others) = below_cons x xs l in
      rw (lt-ltb x more (omega arith)) (below_le more xs h others)

  -- the digits of a number are below the base
  pub digits_below : (n v : ℕ) → 0 < base → all_below base (digits base n v) ≡ true
  unfolding digits all_below
  digits_below zero v h = refl
  digits_below (suc n) v h = rw (lt-ltb _ base (mod-lt (v / base ^ n) h)) (digits_below n v h)

  -- as many digits as asked for
  pub length_digits : (n v : ℕ) → length (digits base n v) ≡ n
  unfolding digits
  length_digits zero v = refl
  length_digits (suc n) v = ap suc (length_digits n v)

  -- digits after those of m, as a number, are m shifted and the value's low part
  pub number_digits : (m n v : ℕ) → 0 < base → number base m (digits base n v) ≡ m * base ^ n + v % base ^ n
  unfolding number digits
  number_digits m zero v h = simp (pow-zero, mul-one, mod-one, add-zero)
  number_digits m (suc n) v h =
      rw (number_digits (m * base + v / base ^ n % base) n v h, pow-succ', mod-mul v h (one-le-pow n base h)) (omega arith)

  -- the number without the digits after those of m is m
  number_div : (m : ℕ) (xs : List ℕ) → all_below base xs ≡ true → number base m xs / base ^ length xs ≡ m
  unfolding number
  number_div m [] h = simp (pow-zero, div-one)
  number_div m (x ∷ xs) h =
      let (first, others) = below_cons x xs h in
      rw (pow-suc, ← div-div-eq-div-mul, number_div (m * base + x) xs others) (digits_div m first)

  -- a number is below the base's power for as many digits
  pub number_lt : (xs : List ℕ) → all_below base xs ≡ true → number base 0 xs < base ^ length xs
  number_lt xs h =
      let q : number base 0 xs / base ^ length xs < 1 = omega (arith, number_div 0 xs h) in
      rw one-mul at ((div-lt_iff_lt-mul (below_pos xs h)).0 q)

  -- the last digits of a number made from digits are those
  pub digits_number : (m : ℕ) (xs : List ℕ) → all_below base xs ≡ true → digits base (length xs) (number base m xs) ≡ xs
  unfolding digits number
  digits_number m [] h = refl
  digits_number m (x ∷ xs) h =
      let (first, others) = below_cons x xs h in
      ap₂ ◌∷◌ (rw (number_div (m * base + x) xs others) (digits_mod m first)) (digits_number (m * base + x) xs others)

-- characters packed and taken apart again
pub characters_packed : {n : ℕ} (cs : List ℕ) → length cs ≡ n → all_below 64 cs ≡ true → characters n (packed cs) ≡ cs
unfolding characters packed
characters_packed cs e h = rw (← e) (digits_number 64 0 cs h)

-- packed characters fit their places
pub packed_lt : (cs : List ℕ) → all_below 64 cs ≡ true → packed cs < 64 ^ length cs
unfolding packed
packed_lt cs h = number_lt 64 cs h

-- leading characters that change are as many as before
length_leading : (x y : ℕ) (cs : List ℕ) → length (leading x y cs) ≡ length cs
unfolding leading
length_leading x y [] = refl
length_leading x y (c ∷ cs) =
    elim (eqb c x) as (λ t. length (cond t (y ∷ leading x y cs) (c ∷ cs)) ≡ suc (length cs)) [ true ↦ ap suc (length_leading x y cs) | false ↦ refl ]

-- they stay below a bound of theirs and of what they become
leading_below : (k x y : ℕ) (cs : List ℕ) → y < k → all_below k cs ≡ true → all_below k (leading x y cs) ≡ true
unfolding leading all_below
leading_below k x y [] h l = l
leading_below k x y (c ∷ cs) h l =
    let others = (below_cons k c cs l).1 in
    elim (eqb c x) as (λ t. all_below k (cond t (y ∷ leading x y cs) (c ∷ cs)) ≡ true)
    [ true ↦ rw (lt-ltb y k h) (leading_below k x y cs h others) | false ↦ l ]

-- leading characters changed and changed back, where the new one was not among them
leading_back : (x y : ℕ) (cs : List ℕ) → all_below y cs ≡ true → leading y x (leading x y cs) ≡ cs
unfolding leading
leading_back x y [] h = refl
leading_back x y (c ∷ cs) h =
    let (first, others) = below_cons y c cs h in
    (elim (eqb c x) as (λ t. eqb c x ≡ t → leading y x (cond t (y ∷ leading x y cs) (c ∷ cs)) ≡ c ∷ cs) [
      | true ↦ λ e. rw (eq-eqb y y refl) (ap₂ ◌∷◌ (sym (eqb-true c x e)) (leading_back x y cs others))
      | false ↦ λ e. rw (ne_eqb c y (omega arith))
    ]) refl

-- a whole word is printed as its characters
printed_whole : (n v : ℕ) → printed n (6 * n) v ≡ characters n v
unfolding printed holds
printed_whole n v =
    let e : (6 * n + 5) / 6 ≡ n = omega arith in
    let m : min n n ≡ n = omega arith in
    rw (e, sub_self, m)

-- zeros to blanks and back, where every character is below the blank
pub blanks_back : {n : ℕ} (cs : List ℕ) → length cs ≡ n → all_below 48 cs ≡ true → blanks_to_zeros n (6 * n) (zeros_to_blanks n (packed cs)) ≡ packed cs
unfolding blanks_to_zeros zeros_to_blanks blank
blanks_back cs e h =
    let wide : all_below 64 cs ≡ true = below_le 48 64 cs (omega arith) h in
    rw (
      printed_whole,
      characters_packed cs e wide,
      characters_packed (leading 0 48 cs) (length_leading 0 48 cs ∙ e) (leading_below 64 0 48 cs (omega arith) wide),
      leading_back 0 48 cs h,
    )

-- what becomes blank fits the word
pub zeros_to_blanks_lt : (n v : ℕ) → zeros_to_blanks n v < 64 ^ n
unfolding zeros_to_blanks blank characters
zeros_to_blanks_lt n v =
    let small = leading_below 64 0 48 (digits 64 n v) (omega arith) (digits_below 64 n v (omega arith)) in
    rw (length_leading, length_digits) at (packed_lt _ small)

-- what is read in a base is below its power
pub to_binary_lt : (base n v : ℕ) {x : ℕ} → to_binary base n v ≡ some x → x < base ^ n
unfolding to_binary characters
to_binary_lt base n v {x} = go (all_below base (digits 64 n v)) refl
  where
    go : (t : Bool) → all_below base (digits 64 n v) ≡ t → cond t (some (number base 0 (digits 64 n v))) none ≡ some x → x < base ^ n
    go true h e =
        let same : number base 0 (digits 64 n v) ≡ x = cc in
        rw (length_digits, same) at (number_lt base (digits 64 n v) h)
    go false h e =
        let never : ◌≡◌ {A = ℕ} 0 1 = cc in
        omega arith

module _ (base n v : ℕ) (pos : 0 < base) where
  module _ (small : base ≤ 64) where
    -- the digits of a value are characters
    digits_wide : all_below 64 (digits base n v) ≡ true
    digits_wide = below_le base 64 _ small (digits_below base n v pos)

    -- a value's digits fit the word
    pub from_binary_lt : from_binary base n v < 64 ^ n
    unfolding from_binary
    from_binary_lt = rw length_digits at (packed_lt (digits base n v) digits_wide)

    -- from binary and back gives the value's low part
    pub from_to : to_binary base n (from_binary base n v) ≡ some (v % base ^ n)
    unfolding to_binary from_binary
    from_to =
        let same = characters_packed (digits base n v) (length_digits base n v) digits_wide in
        rw (same, digits_below base n v pos, number_digits base 0 n v pos, zero-mul, zero-add)

    -- and the value itself where its digits are all there
    pub from_to_all : v < base ^ n → to_binary base n (from_binary base n v) ≡ some v
    from_to_all h = rw from_to (ap some (mod-eq_of_lt h))

  -- the same by way of leading blanks
  pub through_blanks : base ≤ 48 → v < base ^ n → to_binary base n (blanks_to_zeros n (6 * n) (zeros_to_blanks n (from_binary base n v))) ≡ some v
  unfolding from_binary
  through_blanks small h =
      let low = below_le base 48 _ small (digits_below base n v pos) in
      rw (blanks_back (digits base n v) (length_digits base n v) low) (from_to_all (omega arith) h)

-- a word has room for whole characters
whole_characters : (b : ℕ) → is_width b ≡ true → 6 * (b / 6) ≡ b
unfolding is_width
whole_characters b is =
    by_eqb (λ t. (t || eqb b 48) ≡ true → 6 * (b / 6) ≡ b) b 36
    (λ e _. omega arith)
    (λ _ later. let e = eqb-true b 48 later in omega arith) is

-- numbers in whole words, at either width
module _ (b v : ℕ) (is : is_width b ≡ true) where
  -- decimal digits and back: below 1,000,000 at 36 bits, below 100,000,000 at 48
  pub decimal : v < 10 ^ (b / 6) → to_binary 10 (b / 6) (from_binary 10 (b / 6) v) ≡ some v
  decimal = from_to_all 10 (b / 6) v (omega arith) (omega arith)

  -- the same by way of leading blanks
  pub decimal-through-blanks
      : v < 10 ^ (b / 6) → to_binary 10 (b / 6) (blanks_to_zeros (b / 6) b (zeros_to_blanks (b / 6) (from_binary 10 (b / 6) v))) ≡ some v
  decimal-through-blanks h = rw (whole_characters b is) at (through_blanks 10 (b / 6) v (omega arith) (omega arith) h)

  -- octal digits and back: below 2 ^ 18 at 36 bits, below 2 ^ 24 at 48
  pub octal : v < 8 ^ (b / 6) → to_binary 8 (b / 6) (from_binary 8 (b / 6) v) ≡ some v
  octal = from_to_all 8 (b / 6) v (omega arith) (omega arith)

-- the limits of decimal numbers as numbers
pub limits : (10 ^ (36 / 6) ≡ 1000000) × (10 ^ (48 / 6) ≡ 100000000)
limits = (refl, refl)
