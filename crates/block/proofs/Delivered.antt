-- A run delivered: the live blocks of trees, and of a map, are then those from before with one more. The argument is for any blocks that
-- are read off a tree half by half, so that it serves the free ones of the book too. Assumes nothing.
use mathlib.Core.Path.{◌≡◌, refl, sym, ap, ◌∙◌}
use mathlib.Core.Bool.{true, cond, false≢true}
use mathlib.Core.List.Memᴰ
use mathlib.Core.List.{List, [], ◌∷◌, Memᴰ}
use mathlib.Core.Logic.{⊎_elim}
use Prim.Native.Nat.{ℕ, zero, suc, ◌+◌, ◌-◌, ◌*◌, ◌%◌, ◌≤◌, ◌<◌}
use native.Mathlib.Omega.{arith}
use lib.Dec.{eqb, ltb}
use lib.ListN.{length}
use borrow.Author.Tests.{le-leb, ne_eqb}
use Rattle.block.specs.declared.SetUp.{SetUp}
use Rattle.block.specs.Blocks.{size, Block, Tree, Free, Live, Halves, live_in, delivered, gathered, changed, size_at, start, inserted, outside}
use Rattle.block.specs.SetUp.{top, fitting, runs}
use Rattle.block.specs.Map.{canonical, all_canonical, trees, keeps, live, delivered_map}
use Rattle.word.proofs.Tests.{by_leb, by_eqb}
use Rattle.block.proofs.Size.{size_pos, aligned_smaller, offset_mod, fitting_facts}
use Rattle.block.proofs.Map.{canonical_halves, both_free, keeps_parts, trees_fill}
use Rattle.block.proofs.Change.{words_whole, keeps_delivered}
use Rattle.block.proofs.Each.{each_mem}
use Rattle.block.proofs.Tiling.{lies_pos, order_each}
use Rattle.block.proofs.Runs.{outside_mem, runs_sound, runs_aligned}
use Rattle.block.proofs.Local.{Local, local_inserted, narrows_outside, Reads, live_reads, Here, tree_local, forest_local}

-- of n addresses one is a multiple of n
aligned_same : (n at a : ℕ) → at % n ≡ 0 → a % n ≡ 0 → at ≤ a → a < at + n → at ≡ a
aligned_same n at a h l low high =
    let far : at + (a - at) ≡ a = omega arith in
    let none : a - at ≡ 0 = sym (offset_mod n at (a - at) h (omega arith)) ∙ rw far l in
    omega arith

-- a canonical tree without a live block is free
none_live : (k at : ℕ) (t : Tree) → canonical k t ≡ true → ((x : Block) → Memᴰ x (live_in k at t) → ⊥) → t ≡ Free
unfolding live_in
none_live k at Free h no_one = refl
none_live k at Live h no_one = absurd (no_one _ (Memᴰ.head refl))
none_live zero at (Halves l r) h no_one = absurd (unfold canonical in false≢true h)
none_live (suc k) at (Halves l r) h no_one =
    let (left, right, apart) = canonical_halves k l r h in
    absurd (both_free
    (none_live k at l left (λ x m. no_one x (Memᴰ.append_left _ m)))
    (none_live k (at + size k) r right (λ x m. no_one x (Memᴰ.append_right (live_in k at l) m)))
    apart)

-- canonical trees of the k-th size, from an address on, have room for a run of the j-th size at address a
pub record Room (j a k at : ℕ) (ts : List Tree) : Type 0 where
  pub even : at % size k ≡ 0
  pub whole : all_canonical k ts ≡ true
  pub small : j ≤ k
  pub aligned : a % size j ≡ 0
  pub low : at ≤ a
  pub high : a + size j ≤ at + length ts * size k
  pub clear : outside a (size j) (gathered (live_in k) k at ts) ≡ true

module _ (j a : ℕ) (aligned : a % size j ≡ 0) where
  -- the run lies outside these blocks
  abbrev Clear : List Block → Type 0
  Clear xs = outside a (size j) xs ≡ true

  -- a tree of the run's size that holds its address starts there
  same_start : {k at : ℕ} {t : Tree} → j ≡ k → Here a Clear k at t → at ≡ a
  same_start {k} {at} e here =
      let even : a % size k ≡ 0 = rw e at aligned in
      aligned_same (size k) at a here.aligned even here.first here.last

  -- a tree of the run's size that it lies in is free
  same_free : {k at : ℕ} {t : Tree} → j ≡ k → canonical k t ≡ true → Here a Clear k at t → t ≡ Free
  same_free {k} {at} {t} e whole here =
      let wide : size j ≡ size k = ap size e in
      let begin = same_start e here in
      none_live k at t whole
      (λ x m.
      let lies = each_mem (order_each (live_reads.order k at t here.aligned)) m in
      let pos = lies_pos lies in
      ⊎_elim (λ l. omega arith) (λ l. omega arith) (outside_mem a (size j) _ here.holds m))

  -- so a halved tree that it lies in is of a larger size
  smaller : {k at : ℕ} {l r : Tree} → j ≤ suc k → canonical (suc k) (Halves l r) ≡ true → Here a Clear (suc k) at (Halves l r) → j ≤ k
  smaller {k} {at} {l} {r} small whole here =
      by_leb (λ t. j ≤ k) j k (λ s. s)
      (λ s.
      let free = same_free (omega arith) whole here in
      let never : ◌≡◌ {A = ℕ} 0 1 = cc in
      absurd (omega arith))

  -- no tree that it lies in is a live block
  not_live : {k at : ℕ} → Here a Clear k at Live → ⊥
  unfolding live_in
  not_live here =
      ⊎_elim (λ l. omega (arith, here)) (λ l. omega (arith, here, size_pos j)) (outside_mem a (size j) _ here.holds (Memᴰ.head refl))

  -- a free block has no live one, nor have its halves
  opened : {k at : ℕ} → Here a Clear (suc k) at Free → Here a Clear (suc k) at (Halves Free Free)
  unfolding live_in
  opened here = record { aligned = here.aligned; first = here.first; last = here.last; holds = here.holds }

  -- f m reads what is left when the run is delivered, after m halvings at most
  module _ {g : ℕ → ℕ → Tree → List Block} {f : ℕ → List Block → List Block} (reads : Reads g) (near : (m : ℕ) → Local a (f m))
      (leaf : (m : ℕ) → g j a Live ≡ f m (g j a Free))
      (split : (m k at : ℕ) → j ≤ k → at ≤ a → a < at + size (suc k) → f m (g (suc k) at (Halves Free Free)) ≡ f (suc m) (g (suc k) at Free)) where
    -- at the wanted size
    wanted : {k at : ℕ} (m : ℕ) → j ≡ k → Here a Clear k at Free → g k at Live ≡ f m (g k at Free)
    wanted m e here = rw (sym e, same_start e here) (leaf m)

    -- in one tree
    tree_delivered : (k at m : ℕ) (t : Tree) → j ≤ k → k ≤ j + m → canonical k t ≡ true → Here a Clear k at t
        → g k at (delivered j a k at t) ≡ f m (g k at t)
    unfolding delivered
    tree_delivered zero at m Free small enough whole here = wanted m (omega arith) here
    tree_delivered (suc k) at zero Free small enough whole here =
        rw (le-leb (suc k) j (omega arith)) (wanted 0 (omega arith) here)
    tree_delivered (suc k) at (suc m) Free small enough whole here =
        let halved : Tree = cond (ltb a (at + size k)) (Halves (delivered j a k at Free) Free) (Halves Free (delivered j a k (at + size k) Free)) in
        by_leb (λ t. g (suc k) at (cond t Live halved) ≡ f (suc m) (g (suc k) at Free)) (suc k) j
        (λ l. wanted (suc m) (omega arith) here)
        (λ l.
        tree_local (near m) (narrows_outside a (size j)) reads k at Free _ Free _ (opened here)
        (tree_delivered k at m Free (omega arith) (omega arith) (unfold canonical in refl))
        (tree_delivered k (at + size k) m Free (omega arith) (omega arith) (unfold canonical in refl))
        ∙ split m k at (omega arith) here.first here.last)
    tree_delivered k at m Live small enough whole here = absurd (not_live here)
    tree_delivered zero at m (Halves l r) small enough whole here = absurd (unfold canonical in false≢true whole)
    tree_delivered (suc k) at m (Halves l r) small enough whole here =
        let (left, right, apart) = canonical_halves k l r whole in
        let below = smaller small whole here in
        tree_local (near m) (narrows_outside a (size j)) reads k at l _ r _ here
        (tree_delivered k at m l below (omega arith) left)
        (tree_delivered k (at + size k) m r below (omega arith) right)

    -- in one tree after the other
    pub forest_delivered : (k at m : ℕ) (ts : List Tree) → Room j a k at ts → k ≤ j + m
        → gathered (g k) k at (changed (delivered j a k) a k at ts) ≡ f m (gathered (g k) k at ts)
    forest_delivered k at m ts r enough =
        forest_local (near m) (narrows_outside a (size j)) reads k (delivered j a k) (λ b t h here. tree_delivered k b m t r.small enough h here)
        at ts r.even r.low (omega (arith, size_pos j, r.high)) r.whole r.clear

-- the live blocks of trees after the run is delivered
delivered_live : (j a k at : ℕ) (ts : List Tree) → Room j a k at ts
    → gathered (live_in k) k at (changed (delivered j a k) a k at ts) ≡ inserted start (record { address = a; size = size j }) (gathered (live_in k) k at ts)
delivered_live j a k at ts r =
    forest_delivered j a r.aligned live_reads (λ m. local_inserted (record { address = a; size = size j })) (λ m. unfold live_in inserted in refl)
    (λ m k at l low high. unfold live_in in refl)
    k at k ts r (omega arith)

-- the size of a block in a list with one block more
size_inserted : (a n p : ℕ) (xs : List Block) → size_at p (inserted start (record { address = a; size = n }) xs) ≡ cond (eqb a p) n (size_at p xs)
unfolding size_at inserted start
size_inserted a n p [] = refl
size_inserted a n p (y ∷ ys) =
    by_leb (λ t. size_at p (cond t (record { address = a; size = n } ∷ y ∷ ys) (y ∷ inserted start (record { address = a; size = n }) ys))
    ≡ cond (eqb a p) n (cond (eqb y.address p) y.size (size_at p ys))) a y.address
    (λ low. refl)
    (λ high. by_eqb (λ t. cond t y.size (size_at p (inserted start (record { address = a; size = n }) ys))
    ≡ cond (eqb a p) n (cond t y.size (size_at p ys)))
    y.address p
    (λ here. rw (ne_eqb a p (λ z. absurd (omega arith))))
    (λ other. size_inserted a n p ys))

-- a map that keeps its section, and a run of the j-th size
module _ (lent : ℕ) (u : SetUp) (fits : fitting lent u ≡ true) (m : List ℕ) (kept : keeps u m ≡ true) (j a : ℕ) (small : j ≤ top u.d)
    (run : Memᴰ a (runs (size j) u (live u m))) where
  -- its trees have room for it
  pub map_room : Room j a (top u.d) u.s1 (trees u m)
  unfolding live
  map_room =
      let facts = fitting_facts lent u fits in
      let even : u.s1 % size (top u.d) ≡ 0 = rw facts.largest facts.aligned in
      let (first, last, clear, _) = runs_sound (size j) u (live u m) (size_pos j) run in
      record {
        even = even;
        whole = (keeps_parts u m kept).0;
        small = small;
        aligned = runs_aligned (size j) u (live u m) (size_pos j) (aligned_smaller small u.s1 even) run;
        low = first;
        high = rw (trees_fill u m (words_whole lent u fits)) last;
        clear = clear;
      }

  -- the live blocks after the run is delivered
  pub delivered_live_map : live u (delivered_map j a u m) ≡ inserted start (record { address = a; size = size j }) (live u m)
  unfolding live
  delivered_live_map = rw (keeps_delivered lent u fits m kept j a).tells (delivered_live j a (top u.d) u.s1 (trees u m) map_room)

  -- the size of the one at an address then
  pub delivered_size : (p : ℕ) → size_at p (live u (delivered_map j a u m)) ≡ cond (eqb a p) (size j) (size_at p (live u m))
  delivered_size p = rw delivered_live_map (size_inserted a (size j) p (live u m))
