-- Turning numbers by their bits is undone by turning again. Assumes nothing.
use Prim.Native.Nat.{ℕ, zero, suc, ◌*◌, ◌^◌, ◌<◌}
use native.Mathlib.Nat.{mod-eq_of_lt}
use native.Mathlib.Omega.{arith}
use mathlib.Core.Bool.{true}
use mathlib.Core.List.{List, [], ◌∷◌, ◌++◌}
use mathlib.Core.Path.{◌≡◌, refl, sym, ap, ap₂, subst, ◌∙◌}
use lib.Dec.{ltb}
use lib.ListN.{length, take, drop, length-append, length-take, length-drop, take-append-drop}
use lib.Seq.{take_at, drop_at}
use borrow.Author.Tests.{ltb-true, lt-ltb}
use Rattle.character.specs.Character.{digits, number, all_below}
use Rattle.character.proofs.RoundTrip.{digits_below, length_digits, number_digits, number_lt, digits_number}
use Rattle.word.proofs.Tests.{and_true}
use Rattle.columns.specs.Columns.{heads, tails, columns, bit_rows, numbers, turned, turned_groups, each_below}

-- rows of n bits each
pub data Rows (n : ℕ) : List (List ℕ) → Type 0 where
  none : Rows n []
  more : {row : List ℕ} {rows : List (List ℕ)} → length row ≡ n → all_below 2 row ≡ true → Rows n rows → Rows n (row ∷ rows)

-- the first of each column is the first row, and the others are the columns of the other rows
heads_columns : (n : ℕ) (row : List ℕ) (rows : List (List ℕ)) → length row ≡ n → heads (columns n (row ∷ rows)) ≡ row
unfolding columns heads tails
heads_columns zero [] rows e = refl
heads_columns zero (x ∷ xs) rows e = absurd (omega arith)
heads_columns (suc n) [] rows e = absurd (omega arith)
heads_columns (suc n) (x ∷ xs) rows e = ap (λ (l : List ℕ). x ∷ l) (heads_columns n xs (tails rows) (omega arith))

tails_columns : (n : ℕ) (row : List ℕ) (rows : List (List ℕ)) → tails (columns n (row ∷ rows)) ≡ columns n rows
unfolding columns heads tails
tails_columns zero row rows = refl
tails_columns (suc n) row rows = ap (λ (l : List (List ℕ)). heads rows ∷ l) (tails_columns n (drop 1 row) (tails rows))

-- so the columns of the columns are the rows
columns_back : (n : ℕ) {rows : List (List ℕ)} → Rows n rows → columns (length rows) (columns n rows) ≡ rows
unfolding columns
columns_back n none = refl
columns_back n (more {row} {rows} long bits r) =
    ap₂ (λ (x : List ℕ) (l : List (List ℕ)). x ∷ l) (heads_columns n row rows long)
    (ap (columns (length rows)) (tails_columns n row rows) ∙ columns_back n r)

-- the columns are rows of as many bits as there are rows
length_heads : (rows : List (List ℕ)) → length (heads rows) ≡ length rows
unfolding heads
length_heads [] = refl
length_heads (row ∷ rows) = ap suc (length_heads rows)

length_tails : (rows : List (List ℕ)) → length (tails rows) ≡ length rows
unfolding tails
length_tails [] = refl
length_tails (row ∷ rows) = ap suc (length_tails rows)

heads_below : {n : ℕ} {rows : List (List ℕ)} → Rows (suc n) rows → all_below 2 (heads rows) ≡ true
unfolding heads all_below
heads_below none = refl
heads_below (more {row = []} long bits r) = absurd (omega arith)
heads_below (more {row = x ∷ xs} long bits r) = rw (and_true (ltb x 2) _ bits).0 (heads_below r)

tails_rows : {n : ℕ} {rows : List (List ℕ)} → Rows (suc n) rows → Rows n (tails rows)
unfolding tails all_below
tails_rows none = none
tails_rows (more {row = []} long bits r) = absurd (omega arith)
tails_rows (more {row = x ∷ xs} long bits r) = more {row = xs} (omega arith) (and_true (ltb x 2) _ bits).1 (tails_rows r)

columns_rows : (n : ℕ) {rows : List (List ℕ)} → Rows n rows → Rows (length rows) (columns n rows)
unfolding columns
columns_rows zero r = none
columns_rows (suc n) {rows} r =
    more (length_heads rows) (heads_below r)
    (subst (λ (m : ℕ). Rows m (columns n (tails rows))) (length_tails rows) (columns_rows n (tails_rows r)))

pub length_columns : (n : ℕ) (rows : List (List ℕ)) → length (columns n rows) ≡ n
unfolding columns
length_columns zero rows = refl
length_columns (suc n) rows = ap suc (length_columns n (tails rows))

-- the rows of bits of numbers, and the numbers of rows of bits
bit_rows_lem : (n : ℕ) (xs : List ℕ) → Rows n (bit_rows n xs)
unfolding bit_rows
bit_rows_lem n [] = none
bit_rows_lem n (x ∷ xs) = more (length_digits 2 n x) (digits_below 2 n x (omega arith)) (bit_rows_lem n xs)

length_bit_rows : (n : ℕ) (xs : List ℕ) → length (bit_rows n xs) ≡ length xs
unfolding bit_rows
length_bit_rows n [] = refl
length_bit_rows n (x ∷ xs) = ap suc (length_bit_rows n xs)

length_numbers : (rows : List (List ℕ)) → length (numbers rows) ≡ length rows
unfolding numbers
length_numbers [] = refl
length_numbers (row ∷ rows) = ap suc (length_numbers rows)

rows_back : {n : ℕ} {rows : List (List ℕ)} → Rows n rows → bit_rows n (numbers rows) ≡ rows
unfolding bit_rows numbers
rows_back none = refl
rows_back (more {row} {rows} long bits r) =
    ap₂ (λ (x : List ℕ) (l : List (List ℕ)). x ∷ l)
    (ap (λ (n : ℕ). digits 2 n (number 2 0 row)) (sym long) ∙ digits_number 2 0 row bits) (rows_back r)

numbers_back : (n : ℕ) (xs : List ℕ) → each_below (2 ^ n) xs ≡ true → numbers (bit_rows n xs) ≡ xs
unfolding bit_rows numbers each_below
numbers_back n [] small = refl
numbers_back n (x ∷ xs) small =
    let (first, others) = and_true (ltb x (2 ^ n)) _ small in
    ap₂ (λ (y : ℕ) (l : List ℕ). y ∷ l) (number_digits 2 0 n x (omega arith) ∙ rw (mod-eq_of_lt (ltb-true x (2 ^ n) first)) (omega arith))
    (numbers_back n xs others)

numbers_below : {n : ℕ} {rows : List (List ℕ)} → Rows n rows → each_below (2 ^ n) (numbers rows) ≡ true
unfolding numbers each_below
numbers_below none = refl
numbers_below (more {row} long bits r) =
    rw (lt-ltb _ _ (subst (λ (m : ℕ). number 2 0 row < 2 ^ m) long (number_lt 2 row bits))) (numbers_below r)

module _ (n : ℕ) (xs : List ℕ) where
  pub length_turned : length (turned n xs) ≡ n
  unfolding turned
  length_turned = length_numbers _ ∙ length_columns n _

  -- turned numbers have as many bits as there were numbers
  pub turned_below : each_below (2 ^ length xs) (turned n xs) ≡ true
  unfolding turned
  turned_below = subst (λ (m : ℕ). each_below (2 ^ m) (numbers (columns n (bit_rows n xs))) ≡ true) (length_bit_rows n xs)
      (numbers_below (columns_rows n (bit_rows_lem n xs)))

  -- and turned again they are what they were
  pub turned_back : each_below (2 ^ n) xs ≡ true → turned (length xs) (turned n xs) ≡ xs
  unfolding turned
  turned_back small =
      let rows = bit_rows n xs in
      let columns-are = subst (λ (m : ℕ). Rows m (columns n rows)) (length_bit_rows n xs) (columns_rows n (bit_rows_lem n xs)) in
      ap (λ (l : List (List ℕ)). numbers (columns (length xs) l)) (rows_back columns-are)
      ∙ ap (λ (m : ℕ). numbers (columns m (columns n rows))) (sym (length_bit_rows n xs))
      ∙ ap numbers (columns_back n (bit_rows_lem n xs))
      ∙ numbers_back n xs small

-- each of a list, and of its parts
pub below_append : (bound : ℕ) (xs ys : List ℕ) → each_below bound xs ≡ true → each_below bound ys ≡ true → each_below bound (xs ++ ys) ≡ true
unfolding each_below
below_append bound [] ys a b = b
below_append bound (x ∷ xs) ys a b = let (first, others) = and_true (ltb x bound) _ a in rw first (below_append bound xs ys others b)

pub below_take : (bound n : ℕ) (xs : List ℕ) → each_below bound xs ≡ true → each_below bound (take n xs) ≡ true
unfolding each_below
below_take bound zero xs a = refl
below_take bound (suc n) [] a = refl
below_take bound (suc n) (x ∷ xs) a = let (first, others) = and_true (ltb x bound) _ a in rw first (below_take bound n xs others)

below_drop : (bound n : ℕ) (xs : List ℕ) → each_below bound xs ≡ true → each_below bound (drop n xs) ≡ true
unfolding each_below
below_drop bound zero xs a = a
below_drop bound (suc n) [] a = refl
below_drop bound (suc n) (x ∷ xs) a = below_drop bound n xs (and_true (ltb x bound) _ a).1

-- so many groups of m numbers of n bits
module _ (n m : ℕ) where
  pub length_groups : (groups : ℕ) (xs : List ℕ) → length (turned_groups n m groups xs) ≡ n * groups
  unfolding turned_groups
  length_groups zero xs = omega arith
  length_groups (suc groups) xs = simp length-append (omega (arith, length_turned n (take m xs), length_groups groups (drop m xs)))

  pub groups_below : (groups : ℕ) (xs : List ℕ) → length xs ≡ m * groups → each_below (2 ^ m) (turned_groups n m groups xs) ≡ true
  unfolding turned_groups each_below
  groups_below zero xs long = refl
  groups_below (suc groups) xs long =
      let first : length (take m xs) ≡ m = simp length-take (omega arith) in
      below_append (2 ^ m) (turned n (take m xs)) _ (subst (λ (k : ℕ). each_below (2 ^ k) (turned n (take m xs)) ≡ true) first (turned_below n (take m xs)))
      (groups_below groups (drop m xs) (simp length-drop (omega arith)))

  -- turned again, group by group, they are what they were
  pub groups_back : (groups : ℕ) (xs : List ℕ) → length xs ≡ m * groups → each_below (2 ^ n) xs ≡ true
      → turned_groups m n groups (turned_groups n m groups xs) ≡ xs
  unfolding turned_groups
  groups_back zero [] long small = refl
  groups_back zero (x ∷ xs) long small = absurd (omega arith)
  groups_back (suc groups) xs long small =
      let first : length (take m xs) ≡ m = simp length-take (omega arith) in
      let part = turned n (take m xs) in
      let others = turned_groups n m groups (drop m xs) in
      let wide : length part ≡ n = length_turned n (take m xs) in
      ap₂ (λ (a b : List ℕ). turned m a ++ turned_groups m n groups b) (take_at part others n wide) (drop_at part others n wide)
      ∙ ap₂ (λ (a b : List ℕ). a ++ b)
      (ap (λ (k : ℕ). turned k part) (sym first) ∙ turned_back n (take m xs) (below_take (2 ^ n) m xs small))
      (groups_back groups (drop m xs) (simp length-drop (omega arith)) (below_drop (2 ^ n) m xs small))
      ∙ take-append-drop m xs
