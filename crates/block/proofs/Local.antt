-- What is done to a list of blocks at an address is done to the blocks around that address, and so to those of one tree, and of one half
-- of a tree. A block is so put in at its place. Assumes nothing.
use mathlib.Core.Path.{◌≡◌, refl, sym, ap, ◌∙◌}
use mathlib.Core.Bool.{Bool, true, false, cond}
use mathlib.Core.List.Memᴰ
use mathlib.Core.List.{List, [], ◌∷◌, ◌++◌, append-nil, Memᴰ}
use mathlib.Core.Logic.{⊎_elim}
use Prim.Native.Nat.{ℕ, suc, ◌+◌, ◌*◌, ◌%◌, ◌≤◌, ◌<◌}
use native.Mathlib.Nat.{add-mod_right, le-suc}
use native.Mathlib.Omega.{arith}
use lib.Dec.{leb, ltb}
use lib.ListN.{length}
use borrow.Author.Tests.{le-leb, lt-leb}
use Rattle.block.specs.Blocks.{size, Block, Tree, Halves, live_in, free_in, gathered, changed, outside, start, inserted}
use Rattle.block.specs.Map.{canonical, all_canonical}
use Rattle.word.proofs.Tests.{and_true, by_leb}
use Rattle.block.proofs.Size.{size_suc, aligned_smaller}
use Rattle.block.proofs.Each.{Each, each_nil, each_cons, each_map, each_mem}
use Rattle.block.proofs.Tiling.{lies_pos, InOrder, order_each, tree_order, gathered_order}
use Rattle.block.proofs.Runs.{outside_mem, mem_outside}

-- f leaves alone what starts past address a, and what ends by it
pub record Local (a : ℕ) (f : List Block → List Block) : Type 0 where
  pub left : {k b c : ℕ} (xs : List Block) {ys : List Block} → InOrder k b c ys → a < b → f (xs ++ ys) ≡ f xs ++ ys
  pub right : {k b c : ℕ} {xs : List Block} (ys : List Block) → InOrder k b c xs → c ≤ a → f (xs ++ ys) ≡ xs ++ f ys

-- f looks for the first block that a test picks
module _ (f : List Block → List Block) (test : Block → Bool) (hit : Block → List Block → List Block)
    (step : (x : Block) (xs : List Block) → f (x ∷ xs) ≡ cond (test x) (hit x xs) (x ∷ f xs)) where
  -- past those that the test does not pick
  passed : {xs : List Block} (ys : List Block) → Each (λ x. test x ≡ false) xs → f (xs ++ ys) ≡ xs ++ f ys
  passed ys each_nil = refl
  passed ys (each_cons {x = x} {xs = xs} p h) = step x (xs ++ ys) ∙ rw p (ap (λ (zs : List Block). x ∷ zs) (passed ys h))

  module _ (keep : (x : Block) (xs ys : List Block) → hit x (xs ++ ys) ≡ hit x xs ++ ys) where
    -- not as far as those
    reached : (xs : List Block) {ys : List Block} → f ys ≡ f [] ++ ys → f (xs ++ ys) ≡ f xs ++ ys
    reached [] e = e
    reached (x ∷ xs) {ys} e =
        step x (xs ++ ys) ∙ rw (step x xs, keep x xs ys, reached xs e)
        (elim (test x) as (λ t. cond t (hit x xs ++ ys) (x ∷ (f xs ++ ys)) ≡ cond t (hit x xs) (x ∷ f xs) ++ ys) [ true ↦ refl | false ↦ refl ])

    -- if no block that ends by the address is picked, and those that start past it are left alone
    local_walk : {a : ℕ} → ((x : Block) → 0 < x.size → x.address + x.size ≤ a → test x ≡ false)
        → ((ys : List Block) → Each (λ y. a < y.address) ys → f ys ≡ f [] ++ ys) → Local a f
    local_walk miss base =
        record {
          left = λ xs {ys} order l. reached xs (base ys (each_map (λ y p. omega arith) (order_each order)));
          right = λ ys order l. passed ys (each_map (λ x p. miss x (lies_pos p) (omega arith)) (order_each order));
        }

    -- if those are not picked either
    pub local_search : {a : ℕ} → f [] ≡ [] → ((x : Block) → 0 < x.size → x.address + x.size ≤ a → test x ≡ false)
        → ((x : Block) → a < x.address → test x ≡ false) → Local a f
    local_search none miss later =
        local_walk miss (λ ys h. ap f (sym (append-nil ys)) ∙ passed [] (each_map later h) ∙ rw (none, append-nil))

-- a block before all others goes to their front
put_before : (x : Block) (ys : List Block) → Each (λ y. x.address < y.address) ys
    → inserted start x ys ≡ inserted start x [] ++ ys
unfolding inserted start
put_before x [] each_nil = refl
put_before x (y ∷ ys) (each_cons l h) = rw (le-leb x.address y.address (omega arith))

-- putting in a block at the address
pub local_inserted : (x : Block) → Local x.address (inserted start x)
unfolding inserted start
local_inserted x =
    local_walk (inserted start x) (λ y. leb x.address y.address) (λ y ys. x ∷ y ∷ ys) (λ y ys. refl) (λ y xs ys. refl)
    (λ y pos l. lt-leb x.address y.address (omega arith))
    (put_before x)

-- what holds of a list holds of its part around address a
pub record Narrows (a : ℕ) (D : List Block → Type 0) : Type 0 where
  pub left : {k b c : ℕ} (xs : List Block) {ys : List Block} → InOrder k b c ys → a < b → D (xs ++ ys) → D xs
  pub right : {k b c : ℕ} {xs : List Block} (ys : List Block) → InOrder k b c xs → c ≤ a → D (xs ++ ys) → D ys

-- that n words lie outside the blocks
pub narrows_outside : (a n : ℕ) → Narrows a (λ xs. outside a n xs ≡ true)
narrows_outside a n =
    record {
      left = λ xs {ys} order l h. mem_outside a n xs (λ x m. outside_mem a n (xs ++ ys) h (Memᴰ.append_left ys m));
      right = λ {xs} ys order l h. mem_outside a n ys (λ x m. outside_mem a n (xs ++ ys) h (Memᴰ.append_right xs m));
    }

-- that a block at the address is among them
pub narrows_member : (x : Block) → Narrows x.address (Memᴰ x)
narrows_member x =
    record {
      left = λ xs order l m. ⊎_elim (λ p. p) (λ p. absurd (omega (arith, each_mem (order_each order) p))) (Memᴰ.append_cases xs m);
      right = λ {xs} ys order l m. ⊎_elim (λ p. let h = each_mem (order_each order) p in absurd (omega (arith, lies_pos h))) (λ p. p)
          (Memᴰ.append_cases xs m);
    }

-- g reads blocks off a tree, half by half and in order
pub record Reads (g : ℕ → ℕ → Tree → List Block) : Type 0 where
  pub halved : (k at : ℕ) (l r : Tree) → g (suc k) at (Halves l r) ≡ g k at l ++ g k (at + size k) r
  pub order : (k at : ℕ) (t : Tree) → at % size k ≡ 0 → InOrder k at (at + size k) (g k at t)

-- the live ones
pub live_reads : Reads live_in
unfolding live_in
live_reads = record { halved = λ k at l r. refl; order = λ k at t h. (tree_order k at t h).0 }

-- the free ones
pub free_reads : Reads free_in
unfolding free_in
free_reads = record { halved = λ k at l r. refl; order = λ k at t h. (tree_order k at t h).1 }

-- a tree of the k-th size holds address a, and D holds of its live blocks
pub record Here (a : ℕ) (D : List Block → Type 0) (k at : ℕ) (t : Tree) : Type 0 where
  pub aligned : at % size k ≡ 0
  pub first : at ≤ a
  pub last : a < at + size k
  pub holds : D (live_in k at t)

module _ {a : ℕ} {f : List Block → List Block} {D : List Block → Type 0} {g : ℕ → ℕ → Tree → List Block}
    (near : Local a f) (narrow : Narrows a D) (reads : Reads g) where
  -- what is done in the half that holds the address is done in the tree
  pub tree_local : (k at : ℕ) (l m r s : Tree) → Here a D (suc k) at (Halves l r)
      → (Here a D k at l → g k at m ≡ f (g k at l))
      → (Here a D k (at + size k) r → g k (at + size k) s ≡ f (g k (at + size k) r))
      → g (suc k) at (cond (ltb a (at + size k)) (Halves m r) (Halves l s)) ≡ f (g (suc k) at (Halves l r))
  tree_local k at l m r s here below above =
      let first = aligned_smaller (le-suc k) at here.aligned in
      let second = add-mod_right at (size k) ∙ first in
      let holds : D (live_in k at l ++ live_in k (at + size k) r) = rw (live_reads.halved k at l r) at here.holds in
      rw (reads.halved k at l r)
      (by_leb (λ t. g (suc k) at (cond t (Halves m r) (Halves l s)) ≡ f (g k at l ++ g k (at + size k) r)) (suc a) (at + size k)
      (λ h.
      let part = narrow.left _ (live_reads.order k (at + size k) r second) h holds in
      reads.halved k at m r
      ∙ rw (below (record { aligned = first; first = here.first; last = h; holds = part }))
      (sym (near.left _ (reads.order k (at + size k) r second) h)))
      (λ h.
      let from : at + size k ≤ a = omega arith in
      let part = narrow.right _ (live_reads.order k at l first) from holds in
      reads.halved k at l s
      ∙ rw (above (record { aligned = second; first = from; last = omega (arith, here.last, size_suc k); holds = part }))
      (sym (near.right _ (reads.order k at l first) from))))

  -- what is done in the tree that holds the address is done in one tree after the other
  pub forest_local : (k : ℕ) (op : ℕ → Tree → Tree) → ((at : ℕ) (t : Tree) → canonical k t ≡ true → Here a D k at t → g k at (op at t) ≡ f (g k at t))
      → (at : ℕ) (ts : List Tree) → at % size k ≡ 0 → at ≤ a → a < at + length ts * size k → all_canonical k ts ≡ true
      → D (gathered (live_in k) k at ts) → gathered (g k) k at (changed op a k at ts) ≡ f (gathered (g k) k at ts)
  unfolding gathered changed all_canonical
  forest_local k op tree at [] aligned low high whole holds = absurd (omega arith)
  forest_local k op tree at (t ∷ ts) aligned low high whole holds =
      let next = add-mod_right at (size k) ∙ aligned in
      let (first, others) = and_true (canonical k t) _ whole in
      by_leb (λ b. gathered (g k) k at (cond b (op at t ∷ ts) (t ∷ changed op a k (at + size k) ts)) ≡ f (g k at t ++ gathered (g k) k (at + size k) ts))
      (suc a) (at + size k)
      (λ h.
      let part = narrow.left _ (gathered_order (live_in k) k (live_reads.order k) (at + size k) ts next) h holds in
      rw (tree at t first (record { aligned = aligned; first = low; last = h; holds = part }))
      (sym (near.left _ (gathered_order (g k) k (reads.order k) (at + size k) ts next) h)))
      (λ h.
      let from : at + size k ≤ a = omega arith in
      let part = narrow.right _ (live_reads.order k at t aligned) from holds in
      rw (forest_local k op tree (at + size k) ts next from (omega arith) others part)
      (sym (near.right _ (reads.order k at t aligned) from)))
