-- The live and the free blocks of canonical trees tile their words: each block lies in them, aligned and of a size up to the largest,
-- each word lies in just one, and blocks stand in the order of their addresses. Assumes nothing.
use mathlib.Core.Path.{◌≡◌, refl, sym, ◌∙◌}
use mathlib.Core.Bool.{true, false, cond, false≢true}
use mathlib.Core.List.{List, [], ◌∷◌, ◌++◌, Memᴰ}
use mathlib.Core.Logic.{◌⊎◌, inl, inr}
use Prim.Native.Nat.{ℕ, zero, suc, ◌+◌, ◌*◌, ◌%◌, ◌≤◌, ◌<◌}
use native.Mathlib.Nat.{le_refl, le_trans, le-add_right, le-suc, add-mod_right}
use native.Mathlib.Omega.{arith}
use lib.ListN.{length}
use borrow.Author.Tests.{lt-ltb, le-ltb, le-leb, lt-leb, eq-eqb, ne_eqb}
use Rattle.block.specs.declared.SetUp.{SetUp}
use Rattle.block.specs.Blocks.{size, Block, Tree, Free, Live, Halves, live_in, free_in, gathered, size_at, around, covering}
use Rattle.block.specs.SetUp.{top, words, fitting}
use Rattle.block.specs.Map.{canonical, all_canonical, trees, keeps, live, free}
use Rattle.word.proofs.Tests.{and_true, by_leb, by_eqb}
use Rattle.block.proofs.Size.{size_pos, size_suc, aligned_smaller, fitting_facts}
use Rattle.block.proofs.Map.{canonical_halves, keeps_parts, trees_fill}
use Rattle.block.proofs.Change.{words_whole}
use Rattle.block.proofs.Each.{Each, each_nil, each_cons, each_append, each_map, each_mem}

-- a block lies from a to before b, aligned, and its size is one of those up to the k-th
pub record Lies (k a b : ℕ) (x : Block) : Type 0 where
  pub first : a ≤ x.address
  pub last : x.address + x.size ≤ b
  pub place : (j : ℕ) × (j ≤ k) × (x.size ≡ size j)
  pub aligned : x.address % x.size ≡ 0

-- its size is positive
pub lies_pos : {k a b : ℕ} {x : Block} → Lies k a b x → 0 < x.size
lies_pos h =
    let (j, low, same) = h.place in
    omega (arith, size_pos j)

-- a block lies in what is wider
pub lies_wider : {j k a b c d : ℕ} {x : Block} → j ≤ k → c ≤ a → b ≤ d → Lies j a b x → Lies k c d x
lies_wider l m n h =
    let (i, low, same) = h.place in
    record { first = omega arith; last = omega arith; place = (i, omega arith, same); aligned = h.aligned }

-- such blocks, each past the one before
pub data InOrder (k : ℕ) : ℕ → ℕ → List Block → Type 0 where
  order_nil : {a b : ℕ} → a ≤ b → InOrder k a b []
  order_cons : {a b : ℕ} {x : Block} {xs : List Block} → Lies k a b x → InOrder k (x.address + x.size) b xs → InOrder k a b (x ∷ xs)

-- blocks in order are so in what is wider
pub order_wider : {j k a b c d : ℕ} {xs : List Block} → j ≤ k → c ≤ a → b ≤ d → InOrder j a b xs → InOrder k c d xs
order_wider l m n (order_nil h) = order_nil (le_trans m (le_trans h n))
order_wider l m n (order_cons p h) = order_cons (lies_wider l m n p) (order_wider l (le_refl _) n h)

-- the first address is not past the last
pub order_le : {k a b : ℕ} {xs : List Block} → InOrder k a b xs → a ≤ b
order_le (order_nil h) = h
order_le (order_cons p h) = let l = order_le h in omega arith

-- blocks in order after blocks in order
pub order_append : {k a b c : ℕ} {xs ys : List Block} → InOrder k a b xs → InOrder k b c ys → InOrder k a c (xs ++ ys)
order_append (order_nil h) l = order_wider (le_refl _) h (le_refl _) l
order_append (order_cons p h) l = order_cons (lies_wider (le_refl _) (le_refl _) (order_le l) p) (order_append h l)

-- each block of those in order lies there
pub order_each : {k a b : ℕ} {xs : List Block} → InOrder k a b xs → Each (Lies k a b) xs
order_each (order_nil h) = each_nil
order_each (order_cons p h) = each_cons p (each_map (λ x. lies_wider (le_refl _) (omega (arith, p)) (le_refl _)) (order_each h))

-- and each of two such lists
orders_each : {k a b : ℕ} {xs ys : List Block} → InOrder k a b xs × InOrder k a b ys → Each (Lies k a b) (xs ++ ys)
orders_each h = each_append (order_each h.0) (order_each h.1)

-- one block
order_block : (k at : ℕ) → at % size k ≡ 0 → InOrder k at (at + size k) (record { address = at; size = size k } ∷ [])
order_block k at h =
    order_cons (record { first = le_refl at; last = le_refl _; place = (k, le_refl k, refl); aligned = h }) (order_nil (le_refl _))

-- the blocks of two halves
order_halves : {k at : ℕ} {xs ys : List Block} → InOrder k at (at + size k) xs → InOrder k (at + size k) (at + size k + size k) ys
    → InOrder (suc k) at (at + size (suc k)) (xs ++ ys)
order_halves {k} {at} h l = order_wider (omega arith) (le_refl at) (omega (arith, size_suc k)) (order_append h l)

-- the live blocks of a tree stand in order, and so do the free ones
pub tree_order : (k at : ℕ) (t : Tree) → at % size k ≡ 0 → InOrder k at (at + size k) (live_in k at t) × InOrder k at (at + size k) (free_in k at t)
unfolding live_in free_in
tree_order k at Free h = (order_nil (le-add_right at (size k)), order_block k at h)
tree_order k at Live h = (order_block k at h, order_nil (le-add_right at (size k)))
tree_order zero at (Halves l r) h = (order_nil (le-add_right at (size 0)), order_nil (le-add_right at (size 0)))
tree_order (suc k) at (Halves l r) h =
    let aligned = aligned_smaller (le-suc k) at h in
    let (liveLeft, freeLeft) = tree_order k at l aligned in
    let (liveRight, freeRight) = tree_order k (at + size k) r (add-mod_right at (size k) ∙ aligned) in
    (order_halves liveLeft liveRight, order_halves freeLeft freeRight)

-- blocks that stand in order in each tree do so in one tree after the other
pub gathered_order : (f : ℕ → Tree → List Block) (k : ℕ) → ((at : ℕ) (t : Tree) → at % size k ≡ 0 → InOrder k at (at + size k) (f at t))
    → (at : ℕ) (ts : List Tree) → at % size k ≡ 0 → InOrder k at (at + length ts * size k) (gathered f k at ts)
unfolding gathered
gathered_order f k order at [] h = order_nil (le-add_right at _)
gathered_order f k order at (t ∷ ts) h =
    let rest = gathered_order f k order (at + size k) ts (add-mod_right at (size k) ∙ h) in
    order_wider (le_refl k) (le_refl at) (omega arith) (order_append (order at t h) rest)

-- the live blocks of trees stand in order, and so do the free ones
pub forest_order : (k at : ℕ) (ts : List Tree) → at % size k ≡ 0
    → InOrder k at (at + length ts * size k) (gathered (live_in k) k at ts) × InOrder k at (at + length ts * size k) (gathered (free_in k) k at ts)
forest_order k at ts h =
    (gathered_order (live_in k) k (λ a t l. (tree_order k a t l).0) at ts h, gathered_order (free_in k) k (λ a t l. (tree_order k a t l).1) at ts h)

-- each block of a tree lies in its words, live or free
pub tree_each : (k at : ℕ) (t : Tree) → at % size k ≡ 0 → Each (Lies k at (at + size k)) (live_in k at t ++ free_in k at t)
tree_each k at t h = orders_each (tree_order k at t h)

-- and each block of one tree after the other
pub forest_each : (k at : ℕ) (ts : List Tree) → at % size k ≡ 0
    → Each (Lies k at (at + length ts * size k)) (gathered (live_in k) k at ts ++ gathered (free_in k) k at ts)
forest_each k at ts h = orders_each (forest_order k at ts h)

module _ (w : ℕ) where
  -- in those of two lists together
  pub covering_append : (xs ys : List Block) → covering w (xs ++ ys) ≡ covering w xs + covering w ys
  unfolding covering
  covering_append [] ys = omega arith
  covering_append (x ∷ xs) ys =
      let e = covering_append xs ys in
      elim (around w x) as (λ t. cond t (suc (covering w (xs ++ ys))) (covering w (xs ++ ys)) ≡ cond t (suc (covering w xs)) (covering w xs) + covering w ys)
      [ true ↦ omega arith | false ↦ omega arith ]

  -- whichever comes first
  pub covering_swap : (xs ys : List Block) → covering w (xs ++ ys) ≡ covering w (ys ++ xs)
  covering_swap xs ys = omega (arith, covering_append xs ys, covering_append ys xs)

  -- in none of none
  covering_none : covering w [] ≡ 0
  unfolding covering
  covering_none = refl

  -- in one block
  covering_inside : (at n : ℕ) → at ≤ w → w < at + n → covering w (record { address = at; size = n } ∷ []) ≡ 1
  unfolding covering around
  covering_inside at n h l = rw (le-leb at w h, lt-ltb w (at + n) l)

  -- in none that starts later
  covering_below : (at n : ℕ) → w < at → covering w (record { address = at; size = n } ∷ []) ≡ 0
  unfolding covering around
  covering_below at n h = rw (lt-leb at w h)

  -- in none that ends earlier
  covering_above : (at n : ℕ) → at + n ≤ w → covering w (record { address = at; size = n } ∷ []) ≡ 0
  unfolding covering around
  covering_above at n h = rw (le-leb at w (omega arith), le-ltb w (at + n) h)

-- each word from a to before b lies in just one block of two lists, and no other word does
pub record Tiles (a b : ℕ) (xs ys : List Block) : Type 0 where
  pub inside : (w : ℕ) → a ≤ w → w < b → covering w xs + covering w ys ≡ 1
  pub below : (w : ℕ) → w < a → covering w xs + covering w ys ≡ 0
  pub above : (w : ℕ) → b ≤ w → covering w xs + covering w ys ≡ 0

-- a stretch of words after another
pub tiles_append : {a b c : ℕ} {xs ys vs ws : List Block} → a ≤ b → b ≤ c → Tiles a b xs ys → Tiles b c vs ws → Tiles a c (xs ++ vs) (ys ++ ws)
tiles_append {a} {b} {c} {xs} {ys} {vs} {ws} h l p q =
    record {
      inside = λ w first last.
          rw (covering_append w xs vs, covering_append w ys ws)
          (by_leb (λ t. ◌≡◌ {A = ℕ} (covering w xs + covering w vs + (covering w ys + covering w ws)) 1) (suc w) b
          (λ s. omega (arith, p.inside w first s, q.below w s))
          (λ s. omega (arith, p.above w (omega arith), q.inside w (omega arith) last)));
      below = λ w s. omega (arith, covering_append w xs vs, covering_append w ys ws, p.below w s, q.below w (omega arith));
      above = λ w s. omega (arith, covering_append w xs vs, covering_append w ys ws, p.above w (omega arith), q.above w s);
    }

-- no words, no blocks
tiles_none : {a b : ℕ} → a ≡ b → Tiles a b [] []
unfolding covering
tiles_none e = record { inside = λ w first last. omega arith; below = λ w s. refl; above = λ w s. refl }

-- one block
tiles_block : (at n : ℕ) → Tiles at (at + n) (record { address = at; size = n } ∷ []) []
tiles_block at n =
    record {
      inside = λ w first last. omega (arith, covering_inside w at n first last, covering_none w);
      below = λ w s. omega (arith, covering_below w at n s, covering_none w);
      above = λ w s. omega (arith, covering_above w at n s, covering_none w);
    }

-- the two lists change places
tiles_swap : {a b : ℕ} {xs ys : List Block} → Tiles a b xs ys → Tiles a b ys xs
tiles_swap h =
    record {
      inside = λ w first last. omega (arith, h.inside w first last);
      below = λ w s. omega (arith, h.below w s);
      above = λ w s. omega (arith, h.above w s);
    }

-- a word of a stretch lies in one block of both lists
pub tiles_once : {a b : ℕ} {xs ys : List Block} → Tiles a b xs ys → (w : ℕ) → a ≤ w → w < b → covering w (xs ++ ys) ≡ 1
tiles_once {xs = xs} {ys = ys} h w first last = omega (arith, covering_append w xs ys, h.inside w first last)

-- and every other in none
pub tiles_never : {a b : ℕ} {xs ys : List Block} → Tiles a b xs ys → (w : ℕ) → (w < a) ⊎ (b ≤ w) → covering w (xs ++ ys) ≡ 0
tiles_never {xs = xs} {ys = ys} h w (inl s) = omega (arith, covering_append w xs ys, h.below w s)
tiles_never {xs = xs} {ys = ys} h w (inr s) = omega (arith, covering_append w xs ys, h.above w s)

-- the live and the free blocks of a canonical tree tile its words
pub tree_tiles : (k at : ℕ) (t : Tree) → canonical k t ≡ true → Tiles at (at + size k) (live_in k at t) (free_in k at t)
unfolding live_in free_in
tree_tiles k at Free h = tiles_swap (tiles_block at (size k))
tree_tiles k at Live h = tiles_block at (size k)
tree_tiles zero at (Halves l r) h = absurd (unfold canonical in false≢true h)
tree_tiles (suc k) at (Halves l r) h =
    let (left, right, apart) = canonical_halves k l r h in
    let end : at + size (suc k) ≡ at + size k + size k = omega (arith, size_suc k) in
    rw end (tiles_append (le-add_right at (size k)) (le-add_right (at + size k) (size k)) (tree_tiles k at l left) (tree_tiles k (at + size k) r right))

-- and so do those of one tree after the other
pub forest_tiles : (k at : ℕ) (ts : List Tree) → all_canonical k ts ≡ true
    → Tiles at (at + length ts * size k) (gathered (live_in k) k at ts) (gathered (free_in k) k at ts)
unfolding gathered all_canonical
forest_tiles k at [] h = tiles_none (omega arith)
forest_tiles k at (t ∷ ts) h =
    let (first, others) = and_true (canonical k t) _ h in
    let end : at + suc (length ts) * size k ≡ at + size k + length ts * size k = omega arith in
    let rest = forest_tiles k (at + size k) ts others in
    rw end (tiles_append (le-add_right at (size k)) (le-add_right (at + size k) (length ts * size k)) (tree_tiles k at t first) rest)

-- a block that starts at an address is a member, with its size
pub size_at_mem : (a : ℕ) (xs : List Block) → (size_at a xs ≡ 0 → ⊥) → Memᴰ (record { address = a; size = size_at a xs }) xs
unfolding size_at
size_at_mem a [] = λ h. absurd (h refl)
size_at_mem a (x ∷ xs) =
    by_eqb (λ t. let n = cond t x.size (size_at a xs) in (n ≡ 0 → ⊥) → Memᴰ (record { address = a; size = n }) (x ∷ xs)) x.address a
    (λ e h. Memᴰ.head (λ i. record { address = sym e i; size = x.size }))
    (λ e h. Memᴰ.tail (size_at_mem a xs h))

-- and of blocks in order each member has the size at its address
pub order_size_at : {k a b : ℕ} {x : Block} {xs : List Block} → InOrder k a b xs → Memᴰ x xs → size_at x.address xs ≡ x.size
unfolding size_at
order_size_at {k = k} {x = x} (order_nil {a = a} {b = b} _) x10 = elim x10 [ ]
order_size_at {x = x} (order_cons {x = y} p h) (Memᴰ.head e) = rw (eq-eqb y.address x.address (cc)) cc
order_size_at {x = x} (order_cons {x = y} p h) (Memᴰ.tail m) =
    let later = each_mem (order_each h) m in
    rw (ne_eqb y.address x.address (λ e. omega (arith, lies_pos p))) (order_size_at h m)

-- so of live blocks
pub live_size_at : (k at : ℕ) (ts : List Tree) {x : Block} → at % size k ≡ 0
    → Memᴰ x (gathered (live_in k) k at ts) → size_at x.address (gathered (live_in k) k at ts) ≡ x.size
live_size_at k at ts h = order_size_at (forest_order k at ts h).0

module _ (lent : ℕ) (u : SetUp) (fits : fitting lent u ≡ true) (m : List ℕ) where
  -- the trees end where the set-up words do
  ends : u.s1 + length (trees u m) * size (top u.d) ≡ u.s1 + words u
  ends = rw (trees_fill u m (words_whole lent u fits))

  -- the live blocks of a map stand in order in the set-up words, and so do the free ones
  pub map_order : InOrder (top u.d) u.s1 (u.s1 + words u) (live u m) × InOrder (top u.d) u.s1 (u.s1 + words u) (free u m)
  unfolding live free
  map_order =
      let facts = fitting_facts lent u fits in
      rw (← ends) (forest_order (top u.d) u.s1 (trees u m) (rw facts.largest facts.aligned))

  -- so each lies there, aligned
  pub map_each : Each (Lies (top u.d) u.s1 (u.s1 + words u)) (live u m ++ free u m)
  map_each = orders_each map_order

  -- and where the map keeps the section they tile them
  pub map_tiles : keeps u m ≡ true → Tiles u.s1 (u.s1 + words u) (live u m) (free u m)
  unfolding live free
  map_tiles h = rw (← ends) (forest_tiles (top u.d) u.s1 (trees u m) (keeps_parts u m h).0)
