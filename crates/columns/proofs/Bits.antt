-- A turned number bit by bit: which bits it has, and how a loop gathers them. Assumes nothing.
use Prim.Native.Nat.{ℕ, zero, suc, ◌+◌, ◌-◌, ◌*◌, ◌/◌, ◌%◌, ◌^◌, ◌≤◌, ◌<◌}
use native.Mathlib.Nat.{pow-suc, lt_of_lt_of_le}
use native.Mathlib.Numerals.{add-one}
use native.Mathlib.Omega.{arith}
use mathlib.Core.List.{List, [], ◌∷◌, ◌++◌}
use mathlib.Core.Path.{◌≡◌, refl, sym, ap, ap₂, ◌∙◌}
use lib.ListN.{length, get_or, take, drop, get_or-append}
use lib.Pow.{pow_mono}
use lib.Seq.{drop-cons, drop-drop, get_or-append-add}
use Rattle.character.specs.Character.{digits, number}
use Rattle.columns.specs.Columns.{heads, tails, columns, bit_rows, numbers, turned, turned_groups, bits_at}
use Rattle.columns.proofs.Turning.{length_columns, length_turned}

-- the first bits of numbers, and the others
first_bits : (n : ℕ) (xs : List ℕ) → heads (bit_rows (suc n) xs) ≡ bits_at (suc n) 0 xs
unfolding heads bit_rows bits_at digits
first_bits n [] = refl
first_bits n (x ∷ xs) =
    let e : n ≡ suc n - 1 = omega arith in
    ap₂ (λ (y : ℕ) (l : List ℕ). y ∷ l) (ap (λ (k : ℕ). x / 2 ^ k % 2) e) (first_bits n xs)

other_bits : (n : ℕ) (xs : List ℕ) → tails (bit_rows (suc n) xs) ≡ bit_rows n xs
unfolding tails bit_rows digits
other_bits n [] = refl
other_bits n (x ∷ xs) = ap (λ (l : List (List ℕ)). digits 2 n x ∷ l) (other_bits n xs)

later_bits : (n p : ℕ) (xs : List ℕ) → bits_at n p xs ≡ bits_at (suc n) (suc p) xs
unfolding bits_at
later_bits n p [] = refl
later_bits n p (x ∷ xs) =
    let e : n - suc p ≡ suc n - suc (suc p) = omega arith in
    ap₂ (λ (y : ℕ) (l : List ℕ). y ∷ l) (ap (λ (k : ℕ). x / 2 ^ k % 2) e) (later_bits n p xs)

-- column p of the bits of numbers is their bits p
column_at_lem : (n p : ℕ) (xs : List ℕ) → p < n → get_or (columns n (bit_rows n xs)) p [] ≡ bits_at n p xs
unfolding columns
column_at_lem zero p xs h = absurd (omega arith)
column_at_lem (suc n) zero xs h = first_bits n xs
column_at_lem (suc n) (suc p) xs h =
    ap (λ (rows : List (List ℕ)). get_or (columns n rows) p []) (other_bits n xs) ∙ column_at_lem n p xs (omega arith) ∙ later_bits n p xs

number_at_lem : (rows : List (List ℕ)) (p : ℕ) → p < length rows → get_or (numbers rows) p 0 ≡ number 2 0 (get_or rows p [])
unfolding numbers
number_at_lem [] p h = absurd (omega arith)
number_at_lem (row ∷ rows) zero h = refl
number_at_lem (row ∷ rows) (suc p) h = number_at_lem rows p (omega arith)

-- turned number p has the bits p
pub turned_at : (n p : ℕ) (xs : List ℕ) → p < n → get_or (turned n xs) p 0 ≡ number 2 0 (bits_at n p xs)
unfolding turned
turned_at n p xs h =
    number_at_lem (columns n (bit_rows n xs)) p (omega (arith, length_columns n (bit_rows n xs))) ∙ ap (number 2 0) (column_at_lem n p xs h)

-- a loop that gathers the bits p of numbers of n bits: so far i of them, which make this
pub record Gathered (n p : ℕ) (xs : List ℕ) (i made : ℕ) : Type 0 where
  pub same : number 2 made (bits_at n p (drop i xs)) ≡ number 2 0 (bits_at n p xs)
  pub small : made < 2 ^ i

module _ (n p : ℕ) (xs : List ℕ) where
  pub gathered_none : Gathered n p xs 0 0
  gathered_none = record { same = refl; small = omega arith }

  module _ {i made : ℕ} (g : Gathered n p xs i made) where
    -- one bit more
    pub gathered_more : i < length xs → {x r : ℕ} → x ≡ get_or xs i 0 → r ≡ n - suc p → Gathered n p xs (i + 1) (made * 2 + x / 2 ^ r % 2)
    unfolding number bits_at
    gathered_more inside {x} {r} is places =
        record {
          same =
              ap (λ (k : ℕ). number 2 (made * 2 + x / 2 ^ k % 2) (bits_at n p (drop (i + 1) xs))) places
              ∙ ap (λ (k : ℕ). number 2 (made * 2 + x / 2 ^ (n - suc p) % 2) (bits_at n p (drop k xs))) (add-one i)
              ∙ ap (λ (y : ℕ). number 2 (made * 2 + y / 2 ^ (n - suc p) % 2) (bits_at n p (drop (suc i) xs))) is
              ∙ sym (ap (λ (l : List ℕ). number 2 made (bits_at n p l)) (drop-cons xs i 0 inside))
              ∙ g.same;
          small = rw (add-one, pow-suc 2 i) (omega (arith, g.small));
        }

    -- they are so many bits
    pub gathered_small : (m : ℕ) → i ≤ m → made < 2 ^ m
    gathered_small m h = lt_of_lt_of_le g.small (pow_mono h)

    -- all of them
    pub gathered_all : i ≡ length xs → made ≡ number 2 0 (bits_at n p xs)
    unfolding number bits_at
    gathered_all e = sym (ap (λ (l : List ℕ). number 2 made (bits_at n p l)) (past xs i e)) ∙ g.same
      where
        past : (l : List ℕ) (k : ℕ) → k ≡ length l → drop k l ≡ []
        past [] zero e = refl
        past [] (suc k) e = refl
        past (x ∷ l) zero e = absurd (omega arith)
        past (x ∷ l) (suc k) e = past l k (omega arith)

-- number p of group g
module _ (n m : ℕ) where
  pub groups_at : (g k p : ℕ) (xs : List ℕ) → g < k → p < n
      → get_or (turned_groups n m k xs) (n * g + p) 0 ≡ get_or (turned n (take m (drop (m * g) xs))) p 0
  unfolding turned_groups
  groups_at g zero p xs h l = absurd (omega arith)
  groups_at zero (suc k) p xs h l =
      let here : n * 0 + p ≡ p = omega arith in
      let start : m * 0 ≡ 0 = omega arith in
      ap (λ (j : ℕ). get_or (turned n (take m xs) ++ turned_groups n m k (drop m xs)) j 0) here
      ∙ get_or-append (turned n (take m xs)) (turned_groups n m k (drop m xs)) 0 p (omega (arith, length_turned n (take m xs)))
      ∙ ap (λ (j : ℕ). get_or (turned n (take m (drop j xs))) p 0) (sym start)
  groups_at (suc g) (suc k) p xs h l =
      let there : n * suc g + p ≡ length (turned n (take m xs)) + (n * g + p) = omega (arith, length_turned n (take m xs)) in
      let start : m + m * g ≡ m * suc g = omega arith in
      ap (λ (j : ℕ). get_or (turned n (take m xs) ++ turned_groups n m k (drop m xs)) j 0) there
      ∙ get_or-append-add (turned n (take m xs)) (turned_groups n m k (drop m xs)) (n * g + p) 0
      ∙ groups_at g k p (drop m xs) (omega arith) l
      ∙ ap (λ (ys : List ℕ). get_or (turned n (take m ys)) p 0) (drop-drop (m * g) m xs ∙ ap (λ (j : ℕ). drop j xs) start)
