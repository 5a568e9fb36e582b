-- Sets as numbers: what they have after a join, a definition and a restore, and how large they grow.
-- Assumes nothing.
use Prim.Native.Nat.{ℕ, zero, suc, ◌+◌, ◌-◌, ◌*◌, ◌/◌, ◌%◌, ◌^◌, ◌≤◌, ◌<◌, min, max}
use native.Mathlib.Nat.{mod-lt, zero-lt-suc, pow-suc}
use native.Mathlib.Omega.{arith}
use mathlib.Core.Bool.{Bool, true, false, not, ◌&&◌, ◌||◌, cond}
use mathlib.Core.Path.{◌≡◌, refl, ap, sym, subst, ◌∙◌}
use mathlib.Core.Logic.{⊎_elim}
use borrow.Author.Tests.{eqb-true, eqb-false}
use lib.Dec.{eqb}
use lib.Pow.{shr-shr, pow_pos}
use Rattle.machine.proofs.Checks.{or_parts, clash}
use Rattle.word.specs.Word.{bitwise, either, both, differing, ones}
use Rattle.defined.specs.Search.{has, without, including, reached, everything}

-- bit n from the right
abbrev bit_of : ℕ → ℕ → ℕ
bit_of x n = x / 2 ^ n % 2

pub bit_small : (x n : ℕ) → bit_of x n < 2
bit_small x n = mod-lt (x / 2 ^ n) (zero-lt-suc 1)

bit_zero : (x : ℕ) → bit_of x 0 ≡ x % 2
bit_zero x = omega arith

bit_suc : (x n : ℕ) → bit_of x (suc n) ≡ bit_of (x / 2) n
bit_suc x n =
    let e : 2 ^ (1 + n) ≡ 2 ^ suc n = ap (λ m. 2 ^ m) (omega arith) in
    ap (λ m. x / m % 2) (sym e) ∙ ap (λ m. m % 2) (sym (shr-shr x 1 n))

-- a digit operation, place by place
module _ (f : ℕ → ℕ → ℕ) (small : (x y : ℕ) → x < 2 → y < 2 → f x y < 2) where
  pub bitwise_low : (b x y : ℕ) → bitwise f (suc b) x y % 2 ≡ f (x % 2) (y % 2)
  unfolding bitwise
  bitwise_low b x y =
      let d : f (x % 2) (y % 2) < 2 = small (x % 2) (y % 2) (mod-lt x (zero-lt-suc 1)) (mod-lt y (zero-lt-suc 1)) in
      omega arith

  pub bitwise_high : (b x y : ℕ) → bitwise f (suc b) x y / 2 ≡ bitwise f b (x / 2) (y / 2)
  unfolding bitwise
  bitwise_high b x y =
      let d : f (x % 2) (y % 2) < 2 = small (x % 2) (y % 2) (mod-lt x (zero-lt-suc 1)) (mod-lt y (zero-lt-suc 1)) in
      omega arith

  pub bitwise_bit : (b n x y : ℕ) → n < b → bit_of (bitwise f b x y) n ≡ f (bit_of x n) (bit_of y n)
  bitwise_bit zero n x y h = absurd (omega arith)
  bitwise_bit (suc b) zero x y h =
      bit_zero (bitwise f (suc b) x y) ∙ bitwise_low b x y ∙ ap (λ a. f a (y % 2)) (sym (bit_zero x)) ∙ ap (λ a. f (bit_of x 0) a) (sym (bit_zero y))
  bitwise_bit (suc b) (suc n) x y h =
      bit_suc (bitwise f (suc b) x y) n
      ∙ ap (λ z. bit_of z n) (bitwise_high b x y)
      ∙ bitwise_bit b n (x / 2) (y / 2) (omega arith)
      ∙ ap (λ a. f a (bit_of (y / 2) n)) (sym (bit_suc x n))
      ∙ ap (λ a. f (bit_of x (suc n)) a) (sym (bit_suc y n))

  pub bitwise_below : (b x y : ℕ) → bitwise f b x y < 2 ^ b
  unfolding bitwise
  bitwise_below zero x y = omega arith
  bitwise_below (suc b) x y =
      let d : f (x % 2) (y % 2) < 2 = small (x % 2) (y % 2) (mod-lt x (zero-lt-suc 1)) (mod-lt y (zero-lt-suc 1)) in
      let i = bitwise_below b (x / 2) (y / 2) in
      let p : 2 ^ suc b ≡ 2 ^ b * 2 = pow-suc 2 b in
      omega arith

-- the digits of three operations
or_digit : (x y : ℕ) → x < 2 → y < 2 → eqb (max x y) 1 ≡ (eqb x 1 || eqb y 1)
or_digit zero zero h l = refl
or_digit zero (suc zero) h l = refl
or_digit (suc zero) zero h l = refl
or_digit (suc zero) (suc zero) h l = refl
or_digit zero (suc (suc y)) h l = absurd (omega arith)
or_digit (suc zero) (suc (suc y)) h l = absurd (omega arith)
or_digit (suc (suc x)) y h l = absurd (omega arith)

out_digit : (x y : ℕ) → x < 2 → y < 2 → eqb ((x + min x y) % 2) 1 ≡ (eqb x 1 && not (eqb y 1))
out_digit zero zero h l = refl
out_digit zero (suc zero) h l = refl
out_digit (suc zero) zero h l = refl
out_digit (suc zero) (suc zero) h l = refl
out_digit zero (suc (suc y)) h l = absurd (omega arith)
out_digit (suc zero) (suc (suc y)) h l = absurd (omega arith)
out_digit (suc (suc x)) y h l = absurd (omega arith)

max_small : (x y : ℕ) → x < 2 → y < 2 → max x y < 2
max_small x y h l = omega arith

-- a join has what either has
pub has_either : (x y n : ℕ) → n < 37 → has (either 37 x y) n ≡ (has x n || has y n)
unfolding has either
has_either x y n h =
    ap (λ a. eqb a 1) (bitwise_bit max max_small 37 n x y h) ∙ or_digit (bit_of x n) (bit_of y n) (bit_small x n) (bit_small y n)

-- the bits of a power of two
zero_bit : (n : ℕ) → bit_of 0 n ≡ 0
zero_bit zero = refl
zero_bit (suc n) = bit_suc 0 n ∙ zero_bit n

half_power : (m : ℕ) → 2 ^ suc m / 2 ≡ 2 ^ m
half_power m = let p : 2 ^ suc m ≡ 2 ^ m * 2 = pow-suc 2 m in omega arith

power_same : (m : ℕ) → bit_of (2 ^ m) m ≡ 1
power_same zero = refl
power_same (suc m) = bit_suc (2 ^ suc m) m ∙ ap (λ z. bit_of z m) (half_power m) ∙ power_same m

power_other : (m n : ℕ) → (m ≡ n → ⊥) → bit_of (2 ^ m) n ≡ 0
power_other zero zero o = absurd (o refl)
power_other zero (suc n) o = bit_suc 1 n ∙ zero_bit n
power_other (suc m) zero o = let p : 2 ^ suc m ≡ 2 ^ m * 2 = pow-suc 2 m in omega arith
power_other (suc m) (suc n) o =
    bit_suc (2 ^ suc m) n ∙ ap (λ z. bit_of z n) (half_power m) ∙ power_other m n (λ e. o (ap suc e))

has_power : (m n : ℕ) → has (2 ^ m) n ≡ eqb m n
unfolding has
has_power m n =
    elim (eqb m n) as (λ t. eqb m n ≡ t → eqb (bit_of (2 ^ m) n) 1 ≡ t) [
      | true ↦ λ e. ap (λ a. eqb a 1) (subst (λ k. bit_of (2 ^ m) k ≡ 1) (eqb-true m n e) (power_same m))
      | false ↦ λ e. ap (λ a. eqb a 1) (power_other m n (eqb-false m n e))
    ] refl

-- a definition takes its name out
pub has_without : (m x n : ℕ) → n < 37 → has (without m x) n ≡ (has x n && not (eqb m n))
unfolding has without differing both
has_without m x n h =
    ap (λ a. eqb a 1)
    (bitwise_bit (λ x y. (x + y) % 2) (λ x y _ _. mod-lt (x + y) (zero-lt-suc 1)) 37 n x (bitwise min 37 x (2 ^ m)) h
    ∙ ap (λ a. (bit_of x n + a) % 2) (bitwise_bit min (λ x y h l. omega arith) 37 n x (2 ^ m) h))
    ∙ out_digit (bit_of x n) (bit_of (2 ^ m) n) (bit_small x n) (bit_small (2 ^ m) n)
    ∙ ap (λ t. eqb (bit_of x n) 1 && not t) (has_power m n)

-- a restore puts its name in, where there is a path
pub has_including : (m x n : ℕ) → n < 37 → has (including m x) n ≡ (has x n || (has x reached && eqb m n))
unfolding including
has_including m x n h =
    elim (has x reached) as (λ t. has (cond t (either 37 x (2 ^ m)) x) n ≡ (has x n || (t && eqb m n))) [
      | true ↦ has_either x (2 ^ m) n h ∙ ap (λ t. has x n || t) (has_power m n)
      | false ↦ nothing (has x n)
    ]
  where
    nothing : (t : Bool) → t ≡ (t || false)
    nothing true = refl
    nothing false = refl

-- everything is there
ones_bit : (k n : ℕ) → n < k → bit_of (2 ^ k - 1) n ≡ 1
ones_bit zero n h = absurd (omega arith)
ones_bit (suc k) zero h =
    let p : 2 ^ suc k ≡ 2 ^ k * 2 = pow-suc 2 k in
    let q : 0 < 2 ^ k = pow_pos k in
    omega arith
ones_bit (suc k) (suc n) h =
    let p : 2 ^ suc k ≡ 2 ^ k * 2 = pow-suc 2 k in
    let q : 0 < 2 ^ k = pow_pos k in
    let half : (2 ^ suc k - 1) / 2 ≡ 2 ^ k - 1 = omega arith in
    bit_suc (2 ^ suc k - 1) n ∙ ap (λ z. bit_of z n) half ∙ ones_bit k n (omega arith)

pub has_everything : (n : ℕ) → n < 37 → has everything n ≡ true
unfolding has
has_everything n h = ap (λ a. eqb a 1) (ones_bit 37 n h)

pub has_nothing : (n : ℕ) → has 0 n ≡ false
unfolding has
has_nothing zero = refl
has_nothing (suc n) = ap (λ a. eqb a 1) (bit_suc 0 n) ∙ has_nothing n

-- a join is below 2 ^ 37
pub either_below : (x y : ℕ) → either 37 x y < 2 ^ 37
unfolding either
either_below x y = bitwise_below max max_small 37 x y

-- a join has as many elements or more, and no more only where it adds nothing
pub either_grows : (k x y : ℕ) → x < 2 ^ k → (ones k x ≤ ones k (bitwise max k x y)) × (ones k (bitwise max k x y) ≤ ones k x → bitwise max k x y ≡ x)
unfolding ones bitwise
either_grows zero x y h = (omega arith, λ _. omega arith)
either_grows (suc k) x y h =
    let z = bitwise max (suc k) x y in
    let low = bitwise_low max max_small k x y in
    let high = bitwise_high max max_small k x y in
    let p : 2 ^ suc k ≡ 2 ^ k * 2 = pow-suc 2 k in
    let (more, same) = either_grows k (x / 2) (y / 2) (omega arith) in (
      rw (low, high) (omega arith),
      λ few.
          let f : max (x % 2) (y % 2) + ones k (bitwise max k (x / 2) (y / 2)) ≤ x % 2 + ones k (x / 2) = rw (low, high) at few in
          let rest : bitwise max k (x / 2) (y / 2) ≡ x / 2 = same (omega arith) in
          omega arith,
    )

pub ones_few : (k x : ℕ) → ones k x ≤ k
unfolding ones
ones_few zero x = omega arith
ones_few (suc k) x = let i = ones_few k (x / 2) in omega arith

-- a set has what another has
abbrev pub Sub : ℕ → ℕ → Type 0
Sub x y = (n : ℕ) → n < 37 → has x n ≡ true → has y n ≡ true

-- numbers with the same bits
bits_same : (k x y : ℕ) → x < 2 ^ k → y < 2 ^ k → ((n : ℕ) → n < k → bit_of x n ≡ bit_of y n) → x ≡ y
bits_same zero x y h l e = omega arith
bits_same (suc k) x y h l e =
    let p : 2 ^ suc k ≡ 2 ^ k * 2 = pow-suc 2 k in
    let low : x % 2 ≡ y % 2 = sym (bit_zero x) ∙ e 0 (omega arith) ∙ bit_zero y in
    let high : x / 2 ≡ y / 2 = bits_same k (x / 2) (y / 2) (omega arith) (omega arith) (λ n m. sym (bit_suc x n) ∙ e (suc n) (omega arith) ∙ bit_suc y n) in
    omega arith

same_digit : (x y : ℕ) → x < 2 → y < 2 → (eqb x 1 ≡ true → eqb y 1 ≡ true) → (eqb y 1 ≡ true → eqb x 1 ≡ true) → x ≡ y
same_digit zero zero h l f g = refl
same_digit (suc zero) (suc zero) h l f g = refl
same_digit zero (suc zero) h l f g = absurd (let k : false ≡ true = g refl in clash k)
same_digit (suc zero) zero h l f g = absurd (let k : false ≡ true = f refl in clash k)
same_digit zero (suc (suc y)) h l f g = absurd (omega arith)
same_digit (suc zero) (suc (suc y)) h l f g = absurd (omega arith)
same_digit (suc (suc x)) y h l f g = absurd (omega arith)

pub sub_same : (x y : ℕ) → x < 2 ^ 37 → y < 2 ^ 37 → Sub x y → Sub y x → x ≡ y
unfolding has
sub_same x y h l s t = bits_same 37 x y h l (λ n m. same_digit (bit_of x n) (bit_of y n) (bit_small x n) (bit_small y n) (s n m) (t n m))

-- a join to a set that has it all already
pub either_sub : (x y : ℕ) → Sub y (either 37 x y)
either_sub x y n few k = has_either x y n few ∙ either_way (has x n) k
  where
    either_way : (s : Bool) {t : Bool} → t ≡ true → (s || t) ≡ true
    either_way true h = refl
    either_way false h = h

pub either_absorbs : (x y : ℕ) → y < 2 ^ 37 → Sub x y → either 37 x y ≡ y
either_absorbs x y h s =
    sub_same (either 37 x y) y (either_below x y) h
    (λ n few k. ⊎_elim (λ q. s n few q) (λ q. q) (or_parts (has x n) (has y n) (sym (has_either x y n few) ∙ k))) (either_sub x y)
