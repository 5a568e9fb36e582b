-- The book's lists after one more or one less: their members, a fact of each, and the same of the blocks without their bits.
-- Assumes nothing.
use Prim.Native.Nat.{ℕ}
use native.Mathlib.Omega.{arith}
use mathlib.Core.Bool.{true, false, cond}
use mathlib.Core.List.Memᴰ
use mathlib.Core.List.{List, [], ◌∷◌, map, Memᴰ}
use mathlib.Core.Logic.{◌⊎◌, inl, inr, ⊎_elim}
use mathlib.Core.Path.{◌≡◌, refl, ap, sym, ◌∙◌}
use lib.Dec.{eqb, leb}
use Rattle.block.specs.Blocks.{Block, start, inserted}
use Rattle.word.proofs.Tests.{by_eqb}
use Rattle.block.proofs.Each.{Each, each_nil, each_cons, each_mem, mem_each}
use Rattle.block.proofs.Tiling.{InOrder, order_nil, order_cons, order_each, lies_pos}
use Rattle.book.specs.Book.{LiveBlock, live_start, without, blocks}

module _ {A : Type 0} (key : A → ℕ) where
  -- a fact of each, with one more and with one less
  pub each_inserted : {P : A → Type 0} (x : A) {xs : List A} → P x → Each P xs → Each P (inserted key x xs)
  unfolding inserted
  each_inserted x p each_nil = each_cons p each_nil
  each_inserted {P} x p (each_cons {x = y} {xs = ys} q h) =
      elim (leb (key x) (key y)) as (λ t. Each P (cond t (x ∷ y ∷ ys) (y ∷ inserted key x ys)))
      [ true ↦ each_cons p (each_cons q h) | false ↦ each_cons q (each_inserted x p h) ]

  pub each_without : {P : A → Type 0} (a : ℕ) {xs : List A} → Each P xs → Each P (without key a xs)
  unfolding without
  each_without a each_nil = each_nil
  each_without {P} a (each_cons {x = y} {xs = ys} q h) =
      elim (eqb (key y) a) as (λ t. Each P (cond t ys (y ∷ without key a ys)))
      [ true ↦ h | false ↦ each_cons q (each_without a h) ]

  -- the members with one more
  pub inserted_new : (x : A) (xs : List A) → Memᴰ x (inserted key x xs)
  unfolding inserted
  inserted_new x [] = Memᴰ.head refl
  inserted_new x (y ∷ ys) =
      elim (leb (key x) (key y)) as (λ t. Memᴰ x (cond t (x ∷ y ∷ ys) (y ∷ inserted key x ys)))
      [ true ↦ Memᴰ.head refl | false ↦ Memᴰ.tail (inserted_new x ys) ]

  pub inserted_old : (x : A) {z : A} {xs : List A} → Memᴰ z xs → Memᴰ z (inserted key x xs)
  unfolding inserted
  inserted_old x {z} (Memᴰ.head {x = y} {xs = ys} e) =
      elim (leb (key x) (key y)) as (λ t. Memᴰ z (cond t (x ∷ y ∷ ys) (y ∷ inserted key x ys)))
      [ true ↦ Memᴰ.tail (Memᴰ.head e) | false ↦ Memᴰ.head e ]
  inserted_old x {z} (Memᴰ.tail {x = y} {xs = ys} m) =
      elim (leb (key x) (key y)) as (λ t. Memᴰ z (cond t (x ∷ y ∷ ys) (y ∷ inserted key x ys)))
      [ true ↦ Memᴰ.tail (Memᴰ.tail m) | false ↦ Memᴰ.tail (inserted_old x m) ]

  pub inserted_cases : (x z : A) (xs : List A) → Memᴰ z (inserted key x xs) → (z ≡ x) ⊎ Memᴰ z xs
  inserted_cases x z xs m = each_mem (each_inserted {P = λ y. (y ≡ x) ⊎ Memᴰ y xs} x (inl refl) (mem_each xs (λ y n. inr n))) m

  -- a member that is not taken out
  pub without_other : (a : ℕ) {z : A} {xs : List A} → (key z ≡ a → ⊥) → Memᴰ z xs → Memᴰ z (without key a xs)
  unfolding without
  without_other a {z} n (Memᴰ.head {x = y} {xs = ys} e) =
      by_eqb (λ t. Memᴰ z (cond t ys (y ∷ without key a ys))) (key y) a
      (λ p. absurd (n (ap key e ∙ p))) (λ p. Memᴰ.head e)
  without_other a {z} n (Memᴰ.tail {x = y} {xs = ys} m) =
      by_eqb (λ t. Memᴰ z (cond t ys (y ∷ without key a ys))) (key y) a
      (λ p. m) (λ p. Memᴰ.tail (without_other a n m))

  pub without_old : (a : ℕ) (z : A) (xs : List A) → Memᴰ z (without key a xs) → Memᴰ z xs
  without_old a z xs m = each_mem (each_without {P = λ y. Memᴰ y xs} a (mem_each xs (λ y n. n))) m

-- in a list in order of addresses just one block is taken out
pub without_gone : {k lo hi : ℕ} {xs : List Block} (a : ℕ) (z : Block) → InOrder k lo hi xs → Memᴰ z (without start a xs) → z.address ≡ a → ⊥
unfolding without start
without_gone a z (order_nil p) m e = Memᴰ.not-nil m
without_gone {hi = hi} a z (order_cons {x = x} {xs = xs} l o) m e =
    by_eqb (λ t. Memᴰ z (cond t xs (x ∷ without start a xs)) → ⊥) x.address a
    (λ p n. let pos = lies_pos l in let past = (each_mem (order_each o) n).first in omega arith)
    (λ p n. ⊎_elim (λ q. p (ap (λ (y : Block). y.address) (sym q) ∙ e)) (λ q. without_gone a z o q e) (Memᴰ.cases_cons n))
    m

-- the blocks of live blocks, with one more and with one less
pub blocks_inserted : (x : LiveBlock) (xs : List LiveBlock) → blocks (inserted live_start x xs) ≡ inserted start x.block (blocks xs)
unfolding blocks inserted live_start start
blocks_inserted x [] = refl
blocks_inserted x (y ∷ ys) =
    elim (leb x.block.address y.block.address) as (λ t. blocks (cond t (x ∷ y ∷ ys) (y ∷ inserted live_start x ys))
    ≡ cond t (x.block ∷ blocks (y ∷ ys)) (y.block ∷ inserted start x.block (blocks ys)))
    [ true ↦ refl | false ↦ ap (λ zs. y.block ∷ zs) (blocks_inserted x ys) ]

pub blocks_without : (a : ℕ) (xs : List LiveBlock) → blocks (without live_start a xs) ≡ without start a (blocks xs)
unfolding blocks without live_start start
blocks_without a [] = refl
blocks_without a (y ∷ ys) =
    elim (eqb y.block.address a) as (λ t. blocks (cond t ys (y ∷ without live_start a ys)) ≡ cond t (blocks ys) (y.block ∷ without start a (blocks ys)))
    [ true ↦ refl | false ↦ ap (λ zs. y.block ∷ zs) (blocks_without a ys) ]

-- a fact of each block's own, of each live block
pub each_blocks : {P : Block → Type 0} (xs : List LiveBlock) → Each P (blocks xs) → Each (λ (x : LiveBlock). P x.block) xs
unfolding blocks
each_blocks [] h = each_nil
each_blocks (x ∷ xs) (each_cons p h) = each_cons p (each_blocks xs h)

-- two facts of each
pub each_both : {A : Type 0} {P Q : A → Type 0} {xs : List A} → Each P xs → Each Q xs → Each (λ x. P x × Q x) xs
each_both each_nil each_nil = each_nil
each_both (each_cons p h) (each_cons q k) = each_cons (p, q) (each_both h k)

-- a fact of each after a change of each
pub each_changed : {A B : Type 0} {P : B → Type 0} (f : A → B) {xs : List A} → Each (λ x. P (f x)) xs → Each P (map f xs)
each_changed f each_nil = each_nil
each_changed f (each_cons p h) = each_cons p (each_changed f h)
