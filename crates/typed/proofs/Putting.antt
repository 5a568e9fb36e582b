-- Rows put one after the other are rows put at once. Assumes nothing.
use Prim.Native.Nat.{ℕ, ◌+◌, ◌-◌, ◌*◌, ◌≤◌}
use native.Mathlib.Nat.{add-zero}
use native.Mathlib.Omega.{arith}
use mathlib.Core.Path.{◌≡◌, refl, ap, ap₂, sym, ◌∙◌}
use mathlib.Core.List.{List, [], ◌∷◌, ◌++◌, append_assoc}
use lib.ListN.{length, take, drop, length-append, length-drop, take-append-drop}
use lib.Seq.{length-take-le, take_at, drop_at, drop-drop}
use Rattle.table.specs.declared.Row.{Row}
use Rattle.lines.specs.Program.{numbers_of, flat}
use Rattle.lines.proofs.Tables.{flat_length}
use Rattle.typed.specs.Putting.{put_at, put_rows}

module _ (n : ℕ) (xs ys table : List ℕ) where
  pub put_long : n + length xs ≤ length table → length (put_at n xs table) ≡ length table
  unfolding put_at
  put_long fit = simp (length-append, length-drop) (omega (arith, length-take-le n table (omega arith)))

  pub put_put : n + length xs + length ys ≤ length table → put_at (n + length xs) ys (put_at n xs table) ≡ put_at n (xs ++ ys) table
  unfolding put_at
  put_put fit =
      let front = take n table ++ xs in
      let rest = drop (n + length xs) table in
      let long : length front ≡ n + length xs = length-append (take n table) xs ∙ ap (λ (k : ℕ). k + length xs) (length-take-le n table (omega arith)) in
      let whole : take n table ++ (xs ++ rest) ≡ front ++ rest = sym (append_assoc (take n table) xs rest) in
      let later : drop (n + length xs + length ys) (front ++ rest) ≡ drop (length ys) rest =
      sym (drop-drop (length ys) (n + length xs) (front ++ rest)) ∙ ap (drop (length ys)) (drop_at front rest (n + length xs) long) in
      let after : drop (length ys) rest ≡ drop (n + length (xs ++ ys)) table =
      drop-drop (length ys) (n + length xs) table ∙ ap (λ (k : ℕ). drop k table) (sum ∙ ap (λ (k : ℕ). n + k) (sym (length-append xs ys))) in
      rw (whole, take_at front rest (n + length xs) long, later, after)
      (append_assoc (take n table) xs (ys ++ drop (n + length (xs ++ ys)) table)
      ∙ ap (λ (l : List ℕ). take n table ++ l) (sym (append_assoc xs ys (drop (n + length (xs ++ ys)) table))))
    where
      sum : n + length xs + length ys ≡ n + (length xs + length ys)
      sum = omega arith

flat_append : (rs qs : List Row) → flat (rs ++ qs) ≡ flat rs ++ flat qs
unfolding flat
flat_append [] qs = refl
flat_append (r ∷ rs) qs = ap (λ (l : List ℕ). numbers_of r ++ l) (flat_append rs qs) ∙ sym (append_assoc (numbers_of r) (flat rs) (flat qs))

pub put_nothing : (n : ℕ) (table : List ℕ) → put_at n [] table ≡ table
unfolding put_at
put_nothing n table = rw (add-zero n) (take-append-drop n table)

pub rows_none : (r : ℕ) (table : List ℕ) → put_rows r [] table ≡ table
unfolding put_rows flat
rows_none r table = put_nothing (10 * r) table

module _ (r : ℕ) (rs qs : List Row) (table : List ℕ) where
  pub rows_long : 10 * (r + length rs) ≤ length table → length (put_rows r rs table) ≡ length table
  unfolding put_rows
  rows_long fit = put_long (10 * r) (flat rs) (flat qs) table (omega (arith, flat_length rs))

  pub rows_rows : 10 * (r + length rs + length qs) ≤ length table → put_rows (r + length rs) qs (put_rows r rs table) ≡ put_rows r (rs ++ qs) table
  unfolding put_rows
  rows_rows fit =
      let place : 10 * (r + length rs) ≡ 10 * r + length (flat rs) = omega (arith, flat_length rs) in
      rw (place, flat_append rs qs) (put_put (10 * r) (flat rs) (flat qs) table (omega (arith, flat_length rs, flat_length qs)))

-- a row
pub row_put : (row : ℕ) (made : Row) (l ys : List ℕ) → ys ≡ numbers_of made
    → take (10 * row) l ++ (ys ++ drop (10 * row + 10 - 10 * row) (drop (10 * row) l)) ≡ put_rows row (made ∷ []) l
unfolding put_rows put_at flat numbers_of
row_put row made l ys e =
    let ten : 10 * row + (10 * row + 10 - 10 * row) ≡ 10 * row + 10 = omega arith in
    ap₂ (λ (v r : List ℕ). take (10 * row) l ++ (v ++ r)) e (drop-drop (10 * row + 10 - 10 * row) (10 * row) l ∙ ap (λ (k : ℕ). drop k l) ten)
