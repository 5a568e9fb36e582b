-- The free blocks of canonical trees: no two are the halves of one block, and those of a fresh set-up are the ones that the book enters.
-- Assumes nothing.
use mathlib.Core.Path.{◌≡◌, refl, sym, ap, ◌∙◌}
use mathlib.Core.Bool.{Bool, true, false}
use mathlib.Core.List.Memᴰ
use mathlib.Core.List.{List, [], ◌∷◌, ◌++◌, Memᴰ}
use mathlib.Core.Logic.{⊎_elim}
use Prim.Native.Nat.{ℕ, zero, suc, ◌+◌, ◌%◌, ◌≤◌}
use native.Mathlib.Nat.{add-mod_right, le-suc}
use native.Mathlib.Omega.{arith}
use lib.Dec.{eqb, leb}
use lib.ListN.{replicate}
use borrow.Author.Tests.{eqb-true, eq-eqb, leb-true, le-leb}
use Rattle.block.specs.Blocks.{size, Block, Tree, Free, Live, Halves, live_in, free_in, gathered}
use Rattle.block.specs.Map.{canonical, all_canonical}
use Rattle.word.proofs.Tests.{and_true, by_test, by_leb}
use Rattle.block.proofs.Size.{size_pos, size_suc, size_mono, aligned_smaller, offset_mod}
use Rattle.block.proofs.Map.{canonical_halves, both_free}
use Rattle.block.proofs.Each.{each_mem}
use Rattle.block.proofs.Tiling.{Lies, lies_pos, InOrder, order_each, tree_order, forest_order}
use Rattle.book.specs.Book.{blocks_from, halves}

-- a fresh set-up's free blocks are those that the book enters, and none is live
pub fresh_blocks : (k at n : ℕ) → (gathered (free_in k) k at (replicate n Free) ≡ blocks_from (size k) at n)
    × (gathered (live_in k) k at (replicate n Free) ≡ [])
unfolding gathered live_in free_in blocks_from
fresh_blocks k at zero = (refl, refl)
fresh_blocks k at (suc n) =
    let (free, live) = fresh_blocks k (at + size k) n in
    (ap (λ (xs : List Block). record { address = at; size = size k } ∷ xs) free, live)

-- what the test of two halves says
pub record AreHalves (d : ℕ) (x y : Block) : Type 0 where
  pub equal : x.size ≡ y.size
  pub next : x.address + x.size ≡ y.address
  pub aligned : x.address % (x.size + x.size) ≡ 0
  pub small : x.size + x.size ≤ d

-- the test taken apart
pub halves_facts : (d : ℕ) (x y : Block) → halves d x y ≡ true → AreHalves d x y
unfolding halves
halves_facts d x y h =
    let (h2, t4) = and_true _ (leb (x.size + x.size) d) h in
    let (h1, t3) = and_true _ (eqb (x.address % (x.size + x.size)) 0) h2 in
    let (t1, t2) = and_true (eqb x.size y.size) (eqb (x.address + x.size) y.address) h1 in
    record { equal = eqb-true _ _ t1; next = eqb-true _ _ t2; aligned = eqb-true _ _ t3; small = leb-true _ _ t4 }

-- and back
pub facts_halves : (d : ℕ) (x y : Block) → AreHalves d x y → halves d x y ≡ true
unfolding halves
facts_halves d x y h = rw (eq-eqb _ _ h.equal, eq-eqb _ _ h.next, eq-eqb _ _ h.aligned, le-leb _ _ h.small)

-- no block of these and block of those are halves of one block no larger than d
abbrev pub Separate : ℕ → List Block → List Block → Type 0
Separate d xs ys = (x y : Block) → Memᴰ x xs → Memᴰ y ys → halves d x y ≡ true → ⊥

-- if one of two halves ends by a multiple b of the k-th size, and the other starts there or later, they are of that size
meet_size : {k a b : ℕ} {x : Block} (d : ℕ) (y : Block) → b % size k ≡ 0 → Lies k a b x → b ≤ y.address → halves d x y ≡ true → x.size ≡ size k
meet_size {k} {a} {b} {x} d y whole lies later h =
    let (j, low, same) = lies.place in
    let facts = halves_facts d x y h in
    let middle : x.address + x.size ≡ b = omega arith in
    by_leb (λ t. x.size ≡ size k) (suc j) k
    (λ l.
    let far = offset_mod (x.size + x.size) x.address x.size facts.aligned (omega (arith, lies_pos lies)) in
    let twice : size (suc j) ≡ x.size + x.size = omega (arith, size_suc j) in
    let even : b % (x.size + x.size) ≡ 0 = rw twice at (aligned_smaller l b whole) in
    let none : x.size ≡ 0 = sym far ∙ rw middle even in
    absurd (omega (arith, lies_pos lies)))
    (λ l.
    let equal : j ≡ k = omega arith in
    rw equal at same)

-- from blocks, and from blocks after them
pub separate_after : (d : ℕ) {xs ys zs : List Block} → Separate d xs ys → Separate d xs zs → Separate d xs (ys ++ zs)
separate_after d {ys = ys} p q x y m n h = ⊎_elim (λ s. p x y m s h) (λ s. q x y m s h) (Memᴰ.append_cases ys n)

-- blocks that end by b and blocks that start there or later
separate_append : {k a b c : ℕ} {xs ys : List Block} (d : ℕ) → InOrder k a b xs → InOrder k b c ys
    → Separate d xs ys → Separate d xs xs → Separate d ys ys → Separate d (xs ++ ys) (xs ++ ys)
separate_append {xs = xs} {ys = ys} d first second cross left right x y m n h =
    let back : Separate d ys xs = λ v w p q e.
    let high = each_mem (order_each second) p in
    let low = each_mem (order_each first) q in
    omega (arith, lies_pos low, halves_facts d v w e) in
    ⊎_elim (λ p. separate_after d left cross x y p n h) (λ p. separate_after d back right x y p n h) (Memᴰ.append_cases xs m)

-- a block is no larger than the k-th size
lies_small : {k a b : ℕ} {x : Block} → Lies k a b x → x.size ≤ size k
lies_small h =
    let (j, low, same) = h.place in
    omega (arith, size_mono low)

-- a tree with a free block of its own size is free
whole_free : (k at : ℕ) (t : Tree) {x : Block} → at % size k ≡ 0 → Memᴰ x (free_in k at t) → x.size ≡ size k → t ≡ Free
unfolding free_in
whole_free k at Free h m e = refl
whole_free k at Live h m e = absurd (Memᴰ.not-nil m)
whole_free zero at (Halves l r) h m e = absurd (Memᴰ.not-nil m)
whole_free (suc k) at (Halves l r) h m e =
    let aligned = aligned_smaller (le-suc k) at h in
    let next = add-mod_right at (size k) ∙ aligned in
    let small = ⊎_elim
    (λ p. lies_small (each_mem (order_each (tree_order k at l aligned).1) p))
    (λ p. lies_small (each_mem (order_each (tree_order k (at + size k) r next).1) p))
    (Memᴰ.append_cases (free_in k at l) m) in
    absurd (omega (arith, size_pos k, size_suc k))

-- free blocks of two halves are halves of one block only if both halves are free
pub halves_meet : (d k at : ℕ) (l r : Tree) (x y : Block) → at % size k ≡ 0 → Memᴰ x (free_in k at l) → Memᴰ y (free_in k (at + size k) r)
    → halves d x y ≡ true → (l ≡ Free) × (r ≡ Free)
halves_meet d k at l r x y aligned m n h =
    let next = add-mod_right at (size k) ∙ aligned in
    let low = each_mem (order_each (tree_order k at l aligned).1) m in
    let high = each_mem (order_each (tree_order k (at + size k) r next).1) n in
    let whole = meet_size d y next low high.first h in
    (whole_free k at l aligned m whole, whole_free k (at + size k) r next n (sym (halves_facts d x y h).equal ∙ whole))

-- no two free blocks of a canonical tree are halves of one block
pub tree_separate : (d k at : ℕ) (t : Tree) → at % size k ≡ 0 → canonical k t ≡ true → Separate d (free_in k at t) (free_in k at t)
unfolding free_in
tree_separate d k at Free aligned h = λ x y m n e.
    let same : x.address ≡ y.address = cc (Memᴰ.eq_of_singleton m, Memᴰ.eq_of_singleton n) in
    let long : x.size ≡ size k = cc (Memᴰ.eq_of_singleton m) in
    omega (arith, halves_facts d x y e, size_pos k)
tree_separate d k at Live aligned h = λ x y m. absurd (Memᴰ.not-nil m)
tree_separate d zero at (Halves l r) aligned h = λ x y m. absurd (Memᴰ.not-nil m)
tree_separate d (suc k) at (Halves l r) aligned h =
    let first = aligned_smaller (le-suc k) at aligned in
    let second = add-mod_right at (size k) ∙ first in
    let (left, right, apart) = canonical_halves k l r h in
    separate_append d (tree_order k at l first).1 (tree_order k (at + size k) r second).1
    (λ x y m n e.
    let (p, q) = halves_meet d k at l r x y first m n e in
    both_free p q apart)
    (tree_separate d k at l first left)
    (tree_separate d k (at + size k) r second right)

-- nor of a tree and the trees after it
pub later_separate : (k at : ℕ) (t : Tree) (ts : List Tree) → at % size k ≡ 0
    → Separate (size k) (free_in k at t) (gathered (free_in k) k (at + size k) ts)
later_separate k at t ts aligned x y m n e =
    let next = add-mod_right at (size k) ∙ aligned in
    let low = each_mem (order_each (tree_order k at t aligned).1) m in
    let high = each_mem (order_each (forest_order k (at + size k) ts next).1) n in
    let whole = meet_size (size k) y next low high.first e in
    omega (arith, size_pos k, halves_facts (size k) x y e)

-- nor of canonical trees
pub forest_separate : (k at : ℕ) (ts : List Tree) → at % size k ≡ 0 → all_canonical k ts ≡ true
    → Separate (size k) (gathered (free_in k) k at ts) (gathered (free_in k) k at ts)
unfolding gathered all_canonical
forest_separate k at [] aligned h = λ x y m. absurd (Memᴰ.not-nil m)
forest_separate k at (t ∷ ts) aligned h =
    let next = add-mod_right at (size k) ∙ aligned in
    let (first, others) = and_true (canonical k t) _ h in
    separate_append (size k) (tree_order k at t aligned).1 (forest_order k (at + size k) ts next).1
    (later_separate k at t ts aligned) (tree_separate (size k) k at t aligned first) (forest_separate k (at + size k) ts next others)

-- a test that does not hold
pub refuted : {t : Bool} → (t ≡ true → ⊥) → t ≡ false
refuted {t} h = by_test (λ s. s ≡ false) t (λ e. absurd (h e)) (λ e. refl)

-- so the book's test of two free blocks fails
pub apart : (k at : ℕ) (ts : List Tree) → at % size k ≡ 0 → all_canonical k ts ≡ true
    → (x y : Block) → Memᴰ x (gathered (free_in k) k at ts) → Memᴰ y (gathered (free_in k) k at ts) → halves (size k) x y ≡ false
apart k at ts aligned h x y m n = refuted (forest_separate k at ts aligned h x y m n)
