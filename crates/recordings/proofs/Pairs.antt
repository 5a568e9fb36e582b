-- Two numbers for each row, one after the other, and two more stored after them. Assumes nothing.
use Prim.Native.Nat.{ℕ, ◌+◌, ◌*◌, ◌≤◌}
use native.Mathlib.Omega.{arith}
use mathlib.Core.List.{List, [], ◌∷◌, ◌++◌, append_assoc}
use mathlib.Core.Path.{◌≡◌, refl, sym, ap, ◌∙◌}
use lib.ListN.{length, drop, set, length-append}
use lib.Seq.{set_at}
use Rattle.recordings.specs.Recordings.{pairs}

-- the second of two numbers that stand after n others
second_set : (p : List ℕ) (a b : ℕ) (q : List ℕ) (n : ℕ) → length p ≡ n → (y : ℕ) → set (p ++ a ∷ b ∷ q) (n + 1) y ≡ p ++ a ∷ y ∷ q
second_set p a b q n long y =
    ap (λ (l : List ℕ). set l (n + 1) y) (sym (append_assoc p (a ∷ []) (b ∷ q)))
    ∙ set_at (p ++ (a ∷ [])) b q y (n + 1) (length-append p (a ∷ []) ∙ ap (λ (m : ℕ). m + 1) long)
    ∙ append_assoc p (a ∷ []) (y ∷ q)

module _ (f g : ℕ → ℕ) where
  pairs_append : (rows more : List ℕ) → pairs f g (rows ++ more) ≡ pairs f g rows ++ pairs f g more
  unfolding pairs
  pairs_append [] more = refl
  pairs_append (row ∷ rows) more = ap (λ (l : List ℕ). f row ∷ g row ∷ l) (pairs_append rows more)

  pub length_pairs : (rows : List ℕ) → length (pairs f g rows) ≡ 2 * length rows
  unfolding pairs
  length_pairs [] = refl
  length_pairs (row ∷ rows) = omega (arith, length_pairs rows)

  -- one row more
  pairs_last : (rows : List ℕ) (row : ℕ) (rest : List ℕ) → pairs f g (rows ++ (row ∷ [])) ++ rest ≡ pairs f g rows ++ f row ∷ g row ∷ rest
  unfolding pairs
  pairs_last rows row rest =
      ap (λ (l : List ℕ). l ++ rest) (pairs_append rows (row ∷ []))
      ∙ append_assoc (pairs f g rows) (f row ∷ g row ∷ []) rest

  -- a row after the others, over two numbers that stood there
  pub pairs_put : (rows : List ℕ) (row : ℕ) (rest : List ℕ) → 2 ≤ length rest
      → set (set (pairs f g rows ++ rest) (2 * length rows) (f row)) (2 * length rows + 1) (g row) ≡ pairs f g (rows ++ (row ∷ [])) ++ drop 2 rest
  pairs_put rows row [] h = absurd (omega arith)
  pairs_put rows row (a ∷ []) h = absurd (omega arith)
  pairs_put rows row (a ∷ b ∷ rest) h =
      ap (λ (l : List ℕ). set l (2 * length rows + 1) (g row)) (set_at (pairs f g rows) a (b ∷ rest) (f row) (2 * length rows) (length_pairs rows))
      ∙ second_set (pairs f g rows) (f row) b rest (2 * length rows) (length_pairs rows) (g row)
      ∙ sym (pairs_last rows row rest)
