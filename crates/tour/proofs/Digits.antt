-- Decimal digits: the last one, how many there are; octal digits. Assumes nothing.
use Prim.Native.Nat.{ℕ, zero, suc, ◌+◌, ◌*◌, ◌/◌, ◌%◌, ◌^◌, ◌≤◌, ◌<◌}
use native.Mathlib.Nat.{pow-suc}
use native.Mathlib.Omega.{arith}
use mathlib.Core.Bool.{true, false, cond}
use mathlib.Core.List.{List, [], ◌∷◌, ◌++◌, append-nil, append_assoc}
use mathlib.Core.Path.{◌≡◌, refl, sym, ap, ◌∙◌}
use borrow.Author.Tests.{eq-eqb, ne_eqb}
use lib.Dec.{eqb}
use lib.ListN.{length, length-append}
use Rattle.tour.specs.Tour.{digits_within, decimal, octals, codes_line, nought, newline}

-- a number that some digits hold is the same however many more are allowed
pub within : (f g n : ℕ) → n ≤ f → n ≤ g → digits_within f n ≡ digits_within g n
unfolding digits_within
within zero zero n h k = refl
within zero (suc g) n h k = rw (eq-eqb n 0 (omega arith))
within (suc f) zero n h k = rw (eq-eqb n 0 (omega arith))
within (suc f) (suc g) n h k =
    ap (λ (xs : List ℕ). cond (eqb n 0) [] (xs ++ ((nought + n % 10) ∷ []))) (within f g (n / 10) (omega arith) (omega arith))

-- the last digit of a number
pub digits_last : (n : ℕ) → 0 < n → digits_within n n ≡ digits_within (n / 10) (n / 10) ++ ((nought + n % 10) ∷ [])
unfolding digits_within
digits_last zero h = absurd (omega arith)
digits_last (suc m) h =
    let some : eqb (suc m) 0 ≡ false = ne_eqb (suc m) 0 (λ e. omega arith) in
    rw some (ap (λ (xs : List ℕ). xs ++ ((nought + suc m % 10) ∷ [])) (within m (suc m / 10) (suc m / 10) (omega arith) (omega arith)))

-- a number below a power of ten has no more digits
pub digits_few : (k f n : ℕ) → n < 10 ^ k → length (digits_within f n) ≤ k
unfolding digits_within
digits_few k zero n h = omega arith
digits_few zero (suc f) n h = rw (eq-eqb n 0 (omega arith)) (omega arith)
digits_few (suc k) (suc f) n h =
    elim (eqb n 0) as (λ t. length (cond t [] (digits_within f (n / 10) ++ ((nought + n % 10) ∷ []))) ≤ suc k) [
      | true ↦ omega arith
      | false ↦
          let fewer : n / 10 < 10 ^ k = omega (arith, pow-suc 10 k) in
          omega (arith, length-append (digits_within f (n / 10)) ((nought + n % 10) ∷ []), digits_few k f (n / 10) fewer)
    ]

-- a number's digits end with these, and those before them are the digits of the rest
pub record Ends (n rest : ℕ) (xs : List ℕ) : Type 0 where
  pub digits : digits_within n n ≡ digits_within rest rest ++ xs

pub ends_first : (n : ℕ) → Ends n n []
ends_first n = record { digits = sym (append-nil (digits_within n n)) }

module _ {n rest : ℕ} {xs : List ℕ} (ends : Ends n rest xs) where
  pub ends_next : 0 < rest → Ends n (rest / 10) ((nought + rest % 10) ∷ xs)
  ends_next some =
      record {
        digits = ends.digits
            ∙ ap (λ (ys : List ℕ). ys ++ xs) (digits_last rest some)
            ∙ append_assoc (digits_within (rest / 10) (rest / 10)) ((nought + rest % 10) ∷ []) xs;
      }

  pub ends_room : 0 < rest → suc (length xs) ≤ length (digits_within n n)
  ends_room some =
      let whole = ap length ends.digits ∙ length-append (digits_within rest rest) xs in
      let last = ap length (digits_last rest some) ∙ length-append (digits_within (rest / 10) (rest / 10)) ((nought + rest % 10) ∷ []) in
      omega arith

  pub ends_last : rest ≡ 0 → digits_within n n ≡ xs
  unfolding digits_within
  ends_last none = ends.digits ∙ ap (λ (m : ℕ). digits_within m m ++ xs) none

-- a number in decimal, by whether it is 0
pub decimal_none : (n : ℕ) → n ≡ 0 → decimal n ≡ nought ∷ []
unfolding decimal
decimal_none n none = rw (eq-eqb n 0 none)

pub decimal_some : (n : ℕ) → (n ≡ 0 → ⊥) → decimal n ≡ digits_within n n
unfolding decimal
decimal_some n some = rw (ne_eqb n 0 some)

-- a number below a power of ten above 1 has no more places
pub decimal_few : (k n : ℕ) → n < 10 ^ suc k → length (decimal n) ≤ suc k
unfolding decimal
decimal_few k n h =
    elim (eqb n 0) as (λ t. length (cond t (nought ∷ []) (digits_within n n)) ≤ suc k) [ true ↦ omega arith | false ↦ digits_few (suc k) n n h ]

-- three characters a code
pub length_octals : (cs : List ℕ) → length (octals cs) ≡ 3 * length cs
unfolding octals
length_octals [] = refl
length_octals (c ∷ cs) = let more = length_octals cs in omega arith

-- the line of the codes, by whether there is one
pub line_none : (cs : List ℕ) → length cs ≡ 0 → codes_line cs ≡ newline ∷ []
unfolding codes_line
line_none [] none = refl
line_none (c ∷ cs) none = absurd (omega arith)

pub line_some : (cs : List ℕ) → (length cs ≡ 0 → ⊥) → codes_line cs ≡ octals cs
unfolding codes_line
line_some [] some = absurd (some refl)
line_some (c ∷ cs) some = refl

pub length_line : (cs : List ℕ) → length (codes_line cs) ≤ 3 * length cs + 1
unfolding codes_line
length_line [] = omega arith
length_line (c ∷ cs) = let long = length_octals (c ∷ cs) in omega arith
