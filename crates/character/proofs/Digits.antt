-- Laws of digits that the code goes by: a power as a shift, the next digit and the value that grows by it, leading characters, digits in groups,
-- what is printed and what is taken. Assumes nothing.
use mathlib.Core.Path.{◌≡◌, refl, sym, ap, ◌∙◌}
use mathlib.Core.Bool.{cond}
use mathlib.Core.List.{List, [], ◌∷◌, ◌++◌}
use Prim.Native.Nat.{ℕ, zero, suc, ◌+◌, ◌-◌, ◌*◌, ◌/◌, ◌%◌, ◌^◌, ◌≤◌, ◌<◌, min}
use native.Mathlib.Nat.{add_comm, add-sub_of_le, add-sub_cancel_left, sub_self, zero-mul, zero-add, one-mul, mul-zero, mul-suc, pow-zero, pow-suc}
use native.Mathlib.Nat.{pow-succ', pow-le-pow_right, mul-le-mul_left, div-div-eq-div-mul, mod-eq_of_lt}
use native.Mathlib.Omega.{arith}
use lib.Arith.{digits_lt, digits_mod}
use lib.Pow.{pow-add, pow-lt}
use lib.ListN.{length, take, drop, get_or, replicate, length-take, length-drop, drop_of_length-le, length-append, length-replicate}
use lib.ListN.{get_or-replicate, get_or-append}
use lib.Seq.{drop-cons, get_or-append-add}
use borrow.Author.Tests.{lt-ltb, le-ltb, eq-eqb, ne_eqb}
use Rattle.character.specs.Character.{digits, number, characters, packed, holds, blank, leading, all_below, printed}
use Rattle.character.specs.Character.{from_binary}
use Rattle.character.proofs.RoundTrip.{length_digits, number_digits, digits_number, digits_below, from_binary_lt}

-- a power of a power
pub power_of : (b i j : ℕ) → (b ^ i) ^ j ≡ b ^ (i * j)
power_of b i zero = simp (mul-zero, pow-zero)
power_of b i (suc j) = rw (pow-suc, power_of b i j, mul-suc, pow-add)

-- one shifted within a word
pub shifted : (k : ℕ) → k < 64 → 1 * 2 ^ k % 2 ^ 64 ≡ 2 ^ k
shifted k h = rw one-mul (mod-eq_of_lt (pow-lt h))

-- ten characters fit
pub fits : (k : ℕ) → k ≤ 10 → 64 ^ k < 2 ^ 64
fits k h =
    let l : 64 ^ k ≤ 64 ^ 10 = pow-le-pow_right (omega arith) h in
    omega arith

-- a value made of n digits, of which some are left
pub record Growing (n left made : ℕ) : Type 0 where
  pub most : left ≤ n
  pub fitted : made < 64 ^ (n - left)

-- at first all are left
pub growing : (n : ℕ) → Growing n n 0
growing n = record { most = omega arith; fitted = rw (sub_self, pow-zero) (omega arith) }

module _ {n left made : ℕ} (g : Growing n left made) (some_left : 0 < left) (base x : ℕ) (small : base ≤ 64) (last : x < 64) where
  -- it grows by a digit of a base up to 64
  pub grown : Growing n (left - 1) (made * base + x)
  grown =
      let e : n - (left - 1) ≡ suc (n - left) = omega arith in
      let wide : made * base ≤ made * 64 = mul-le-mul_left made small in
      let next : made * 64 + x < 64 ^ (n - left) * 64 = digits_lt g.fitted last in
      record { most = omega arith; fitted = rw (e, pow-suc) (omega arith) }

  -- and fits where there are at most ten
  pub grown_fits : n ≤ 10 → made * base + x < 2 ^ 64
  grown_fits h =
      let top = fits (n - (left - 1)) (omega arith) in
      omega (arith, grown.fitted)

-- it fits, too, with all that are left put after it
pub whole_fits : {n left made : ℕ} (r : ℕ) → Growing n left made → n ≤ 10 → r < 64 ^ left → made * 64 ^ left + r < 2 ^ 64
whole_fits {n} {left} {made} r g h l =
    let e : n - left + left ≡ n = omega arith in
    let all : made * 64 ^ left + r < 64 ^ (n - left) * 64 ^ left = digits_lt g.fitted l in
    let top = fits n h in
    omega (arith, rw (← pow-add, e) at all)

-- the first of some digits, and the others
pub digits_first : (base k v : ℕ) → 0 < k → digits base k v ≡ (v / base ^ (k - 1) % base) ∷ digits base (k - 1) v
unfolding digits
digits_first base zero v h = absurd (omega arith)
digits_first base (suc k) v h =
    let e : suc k - 1 ≡ k = omega arith in
    rw e

-- one digit more of a number
pub number_next : (b base m k v : ℕ) → 0 < k → number b m (digits base k v) ≡ number b (m * b + v / base ^ (k - 1) % base) (digits base (k - 1) v)
unfolding number
number_next b base m k v h = rw (digits_first base k v h)

-- what digits come to, where each is one of the base
module _ {A : Type 0} (yes : ℕ → A) (no : A) where
  unfoldable pub answer : ℕ → ℕ → List ℕ → A
  answer base m xs = cond (all_below base xs) (yes (number base m xs)) no

  module _ (base m x : ℕ) (xs : List ℕ) where
    -- one more digit
    pub answer_next : x < base → answer base m (x ∷ xs) ≡ answer base (m * base + x) xs
    unfolding answer all_below number
    answer_next h = rw (lt-ltb x base h)

    -- one that is none
    pub answer_stop : base ≤ x → answer base m (x ∷ xs) ≡ no
    unfolding answer all_below
    answer_stop h = rw (le-ltb x base h)

  -- the first digit of a value that has some left
  module _ (base m k v x : ℕ) (some_left : 0 < k) (first : x ≡ v / 64 ^ (k - 1) % 64) where
    opened : answer base m (digits 64 k v) ≡ answer base m (x ∷ digits 64 (k - 1) v)
    opened = ap (answer base m) (digits_first 64 k v some_left ∙ ap (λ (y : ℕ). y ∷ digits 64 (k - 1) v) (sym first))

    pub answer_turn : x < base → answer base m (digits 64 k v) ≡ answer base (m * base + x) (digits 64 (k - 1) v)
    answer_turn h = opened ∙ answer_next base m x (digits 64 (k - 1) v) h

    pub answer_ends : base ≤ x → answer base m (digits 64 k v) ≡ no
    answer_ends h = opened ∙ answer_stop base m x (digits 64 (k - 1) v) h

module _ (old new m x : ℕ) (xs : List ℕ) where
  -- a leading character that changes
  pub leading_next : x ≡ old → number 64 m (leading old new (x ∷ xs)) ≡ number 64 (m * 64 + new) (leading old new xs)
  unfolding leading number
  leading_next e = rw (eq-eqb x old e)

  -- the first that does not
  pub leading_stop : (x ≡ old → ⊥) → leading old new (x ∷ xs) ≡ x ∷ xs
  unfolding leading
  leading_stop e = rw (ne_eqb x old e)

-- the first character of a value that has some left
module _ (old new m k v x : ℕ) (some_left : 0 < k) (first : x ≡ v / 64 ^ (k - 1) % 64) where
  opened_leading : leading old new (digits 64 k v) ≡ leading old new (x ∷ digits 64 (k - 1) v)
  opened_leading = ap (leading old new) (digits_first 64 k v some_left ∙ ap (λ (y : ℕ). y ∷ digits 64 (k - 1) v) (sym first))

  pub leading_turn : x ≡ old → number 64 m (leading old new (digits 64 k v)) ≡ number 64 (m * 64 + new) (leading old new (digits 64 (k - 1) v))
  leading_turn e = ap (number 64 m) opened_leading ∙ leading_next old new m x (digits 64 (k - 1) v) e

  pub leading_ends : (x ≡ old → ⊥) → number 64 m (leading old new (digits 64 k v)) ≡ m * 64 ^ k + v % 64 ^ k
  leading_ends e =
      let all = leading_stop old new m x (digits 64 (k - 1) v) e ∙ ap (λ (y : ℕ). y ∷ digits 64 (k - 1) v) first ∙ sym (digits_first 64 k v some_left) in
      ap (number 64 m) (opened_leading ∙ all) ∙ number_digits 64 m k v (omega arith)

-- blanks that become zeros in front of characters add nothing
pub blanks_first : (k : ℕ) (cs : List ℕ) → packed (leading blank 0 (replicate k blank ++ cs)) ≡ packed (leading blank 0 cs)
unfolding packed leading number blank
blanks_first zero cs = refl
blanks_first (suc k) cs = blanks_first k cs

module _ (base : ℕ) where
  -- digits after those of m
  number_from : (m : ℕ) (xs : List ℕ) → number base m xs ≡ m * base ^ length xs + number base 0 xs
  unfolding number
  number_from m [] = rw pow-zero (omega arith)
  number_from m (x ∷ xs) = rw (number_from (m * base + x) xs, number_from (0 * base + x) xs, pow-succ') (omega arith)

  -- digits of two lists
  number_append : (m : ℕ) (xs ys : List ℕ) → number base m (xs ++ ys) ≡ number base (number base m xs) ys
  unfolding number
  number_append m [] ys = refl
  number_append m (x ∷ xs) ys = number_append (m * base + x) xs ys

module _ (base : ℕ) where
  -- digits in two groups
  digits_append : (k n v : ℕ) → digits base (k + n) v ≡ digits base k (v / base ^ n) ++ digits base n v
  unfolding digits
  digits_append zero n v = rw zero-add
  digits_append (suc k) n v =
      let e : suc k + n ≡ suc (k + n) = omega arith in
      rw (e, digits_append k n v, div-div-eq-div-mul, ← pow-add, add_comm n k)

  -- the last digits are those of a remainder
  digits_low : (n v : ℕ) → 0 < base → digits base n (v % base ^ n) ≡ digits base n v
  digits_low n v h =
      rw (number_digits base 0 n v h, length_digits, zero-mul, zero-add) at (digits_number base 0 (digits base n v) (digits_below base n v h))

  -- the digit with some digits before it and some after
  get_d_digits : (n v before after : ℕ) → before + after + 1 ≡ n → get_or (digits base n v) before 0 ≡ v / base ^ after % base
  unfolding digits
  get_d_digits zero v before after h = absurd (omega arith)
  get_d_digits (suc n) v zero after h =
      let e : n ≡ after = omega arith in
      rw e
  get_d_digits (suc n) v (suc before) after h = get_d_digits n v before after (omega arith)

  -- a conversion in two groups
  from_binary_more : (k n v : ℕ) → from_binary base (k + n) v ≡ from_binary base k (v / base ^ n) * 64 ^ n + from_binary base n v
  unfolding from_binary packed
  from_binary_more k n v = rw (
    digits_append k n v,
    number_append 64 0,
    number_from 64 (number 64 0 (digits base k (v / base ^ n))) (digits base n v),
    length_digits,
  )

  -- a conversion of the last digits
  from_binary_low : (n v : ℕ) → 0 < base → from_binary base n (v % base ^ n) ≡ from_binary base n v
  unfolding from_binary
  from_binary_low n v h = rw (digits_low n v h)

  -- the last characters of a longer conversion
  pub from_binary_last : (k n v : ℕ) → 0 < base → base ≤ 64 → from_binary base (k + n) v % 64 ^ n ≡ from_binary base n v
  from_binary_last k n v h small = rw from_binary_more (digits_mod _ (from_binary_lt base n v h small))

-- nine decimal digits, three and then six
pub three_six : (v : ℕ) → from_binary 10 3 (v / 1000000 % 1000) * 68719476736 + from_binary 10 6 (v % 1000000) ≡ from_binary 10 9 v
three_six v = rw (from_binary_low 10 3 (v / 1000000) (omega arith), from_binary_low 10 6 v (omega arith), from_binary_more 10 3 6 v)

-- six decimal digits, three at a time
pub three_three : (k : ℕ) → k < 1000000 → from_binary 10 3 (k / 1000) * 262144 + from_binary 10 3 (k % 1000) ≡ from_binary 10 6 k
three_three k h = rw (from_binary_low 10 3 k (omega arith), from_binary_more 10 3 3 k)

-- the last n of six
pub last_of_six : (n v : ℕ) → n ≤ 6 → from_binary 10 6 (v % 1000000) % 64 ^ n ≡ from_binary 10 n v
last_of_six n v h =
    let e : 6 - n + n ≡ 6 = omega arith in
    rw (from_binary_low 10 6 v (omega arith)) (rw e at (from_binary_last 10 (6 - n) n v (omega arith) (omega arith)))

module _ (count width v : ℕ) where
  -- as many characters as asked for
  pub length_printed : length (printed count width v) ≡ count
  unfolding printed characters
  length_printed = simp (length-append, length-replicate, length_digits) (omega arith)

  module _ (before after : ℕ) (all : before + after + 1 ≡ count) where
    -- a printed character that the field holds
    pub printed_held : after < holds width → get_or (printed count width v) before 0 ≡ v / 64 ^ after % 64
    unfolding printed characters
    printed_held h =
        let blanks : List ℕ = replicate (count - holds width) blank in
        let l : count - holds width ≤ before = omega arith in
        let e : length blanks + (before - (count - holds width)) ≡ before = rw length-replicate (add-sub_of_le l) in
        rw (← e, get_or-append-add) (get_d_digits 64 (min count (holds width)) v (before - (count - holds width)) after (omega arith))

    -- one in front of them
    pub printed_blank : holds width ≤ after → get_or (printed count width v) before 0 ≡ 48
    unfolding printed blank
    printed_blank h =
        let l : before < count - holds width = omega arith in
        let blanks : List ℕ = replicate (count - holds width) 48 in
        let m : before < length blanks = rw length-replicate l in
        rw (get_or-append, get_or-replicate)

module _ (input : List ℕ) (at count i : ℕ) (inside : at + count ≤ length input) where
  abbrev taken : List ℕ
  taken = take count (drop at input)

  -- as many bytes as are taken
  pub length_taken : length taken ≡ count
  length_taken = simp (length-take, length-drop) (omega arith)

  -- a place in as much as the code cuts out is one of them, and a place past it is none
  pub taken_inside : i < length (take (at + count - at) (drop at input)) → i < count
  taken_inside h = rw (add-sub_cancel_left, length_taken) at h

  pub taken_past : length (take (at + count - at) (drop at input)) ≤ i → drop i taken ≡ []
  taken_past h = drop_of_length-le taken (rw add-sub_cancel_left at h)

  -- the first of those that are left, and the others
  pub taken_first : {x : ℕ} → i < length (take (at + count - at) (drop at input)) → x ≡ get_or (take (at + count - at) (drop at input)) i 0
      → drop i taken ≡ x ∷ drop (i + 1) taken
  taken_first h is =
      let e : i + 1 ≡ suc i = omega arith in
      rw (e, rw add-sub_cancel_left at is) (drop-cons taken i 0 (rw add-sub_cancel_left at h))
