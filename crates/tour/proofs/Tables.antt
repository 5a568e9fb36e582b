-- The numbers of a file, put from the last one on, and its table. Assumes nothing.
use Prim.Native.Nat.{ℕ, zero, suc, ◌+◌, ◌-◌, ◌*◌, ◌/◌, ◌%◌, ◌≤◌, ◌<◌}
use native.Mathlib.Nat.{sub_self}
use native.Mathlib.Omega.{arith}
use mathlib.Core.Bool.{true, false, ◌&&◌, cond}
use mathlib.Core.List.{List, [], ◌∷◌, ◌++◌}
use mathlib.Core.Path.{◌≡◌, refl, sym, ap, ◌∙◌}
use borrow.Author.Tests.{eq-eqb, ne_eqb, le-leb, lt-leb, leb-true}
use lib.Dec.{eqb, leb}
use lib.ListN.{length, take, drop}
use lib.Seq.{drop-drop, take_at}
use Rattle.octets.specs.Octets.{low_first}
use Rattle.tour.specs.Tour.{numbers, table_of}
use Rattle.tour.specs.Put.{put_before}

-- as many numbers as are asked for
pub length_numbers : (n : ℕ) (bytes : List ℕ) → length (numbers n bytes) ≡ n
unfolding numbers
length_numbers zero bytes = refl
length_numbers (suc n) bytes = ap suc (length_numbers n (drop 8 bytes))

-- the numbers from left on, of n
abbrev pub from : List ℕ → ℕ → ℕ → List ℕ
from bytes n left = numbers (n - left) (drop (8 * left) bytes)

pub from_none : (bytes : List ℕ) (n : ℕ) → from bytes n n ≡ []
unfolding numbers
from_none bytes n = rw (sub_self n)

pub from_next : (bytes : List ℕ) (n left : ℕ) → 0 < left → left ≤ n
    → from bytes n (left - 1) ≡ low_first (take 8 (drop (8 * (left - 1)) bytes)) ∷ from bytes n left
unfolding numbers
from_next bytes n left some h =
    let more : n - (left - 1) ≡ suc (n - left) = omega arith in
    let next : 8 * (left - 1) + 8 ≡ 8 * left = omega arith in
    ap (λ (m : ℕ). numbers m (drop (8 * (left - 1)) bytes)) more
    ∙ ap (λ (rest : List ℕ). low_first (take 8 (drop (8 * (left - 1)) bytes)) ∷ numbers (n - left) rest) (drop-drop 8 (8 * (left - 1)) bytes
    ∙ ap (λ (m : ℕ). drop m bytes) next)

-- the table of a file's bytes
module _ (tab : List ℕ) where
  pub table_uneven : (length tab % 8 ≡ 0 → ⊥) → table_of tab ≡ []
  unfolding table_of
  table_uneven some = rw (ne_eqb (length tab % 8) 0 some)

  pub table_long : length tab % 8 ≡ 0 → 64000 < length tab → table_of tab ≡ []
  unfolding table_of
  table_long none high = rw (eq-eqb (length tab % 8) 0 none, lt-leb (length tab) 64000 high)

  pub table_fits : length tab % 8 ≡ 0 → length tab ≤ 64000 → table_of tab ≡ numbers (length tab / 8) tab
  unfolding table_of
  table_fits none low = rw (eq-eqb (length tab % 8) 0 none, le-leb (length tab) 64000 low)

  pub table_most : length (table_of tab) ≤ 8000
  unfolding table_of
  table_most =
      elim (eqb (length tab % 8) 0) as (λ t. length (cond (t && leb (length tab) 64000) (numbers (length tab / 8) tab) []) ≤ 8000) [
        | true ↦
            elim (leb (length tab) 64000) as (λ t. leb (length tab) 64000 ≡ t → length (cond t (numbers (length tab / 8) tab) []) ≤ 8000)
            [ true ↦ λ k. omega (arith, leb-true (length tab) 64000 k, length_numbers (length tab / 8) tab) | false ↦ λ k. omega arith ] refl
        | false ↦ omega arith
      ]

-- what is put at the start of a buffer stands there
pub take_put : (xs t : List ℕ) (n : ℕ) → n ≡ length xs → take n (put_before n xs t) ≡ xs
unfolding put_before
take_put xs t n is =
    let first : n - length xs ≡ 0 = omega arith in
    ap (λ (m : ℕ). take n (take m t ++ (xs ++ drop n t))) first ∙ take_at xs (drop n t) n (sym is)
