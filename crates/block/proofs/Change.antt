-- Canonical trees stay canonical when a block is freed or delivered, so a map that keeps the section "Blocks" goes on keeping it.
-- Assumes nothing.
use mathlib.Core.Path.{◌≡◌, refl, ap}
use mathlib.Core.Bool.{true, false, ◌&&◌, cond}
use mathlib.Core.List.{List, [], ◌∷◌, ◌++◌}
use Prim.Native.Nat.{ℕ, zero, suc, ◌+◌, ◌-◌, ◌*◌, ◌/◌, ◌%◌, ◌≤◌}
use native.Mathlib.Nat.{div-add-mod'}
use native.Mathlib.Omega.{arith}
use lib.Dec.{leb, ltb}
use lib.ListN.{length, replicate, length-replicate}
use Rattle.block.specs.declared.SetUp.{SetUp}
use Rattle.block.specs.Blocks.{size, Tree, Free, Live, Halves, joined, freed, delivered, changed}
use Rattle.block.specs.SetUp.{top, words, fitting}
use Rattle.block.specs.Map.{is_free, canonical, all_canonical, all_written, trees, map_of, keeps, fresh_map, freed_map}
use Rattle.block.specs.Map.{delivered_map}
use Rattle.word.proofs.Tests.{and_true, and_false, either_way, by_leb}
use Rattle.block.proofs.Size.{fitting_facts}
use Rattle.block.proofs.Map.{canonical_halves, keeps_parts, keeps_words, keeps_map_of, trees_map_of, trees_fill, length_map_of}

-- a free block is canonical
free_canonical : (k : ℕ) → canonical k Free ≡ true
unfolding canonical
free_canonical k = refl

-- and so is a live one
live_canonical : (k : ℕ) → canonical k Live ≡ true
unfolding canonical
live_canonical k = refl

-- canonical halves that are not both free make a canonical block
pub halves_canonical : (k : ℕ) (l r : Tree) → canonical k l ≡ true → canonical k r ≡ true → (is_free l && is_free r) ≡ false
    → canonical (suc k) (Halves l r) ≡ true
unfolding canonical
halves_canonical k l r left right apart = rw (left, right, apart)

-- rejoining leaves a canonical block
pub joined_canonical : (k : ℕ) (l r : Tree) → canonical k l ≡ true → canonical k r ≡ true → canonical (suc k) (joined l r) ≡ true
unfolding joined is_free
joined_canonical k Free Free h m = free_canonical (suc k)
joined_canonical k Free Live h m = halves_canonical k Free Live h m refl
joined_canonical k Free (Halves a b) h m = halves_canonical k Free (Halves a b) h m refl
joined_canonical k Live r h m = halves_canonical k Live r h m refl
joined_canonical k (Halves a b) r h m = halves_canonical k (Halves a b) r h m refl

-- so does freeing
pub freed_canonical : (a k at : ℕ) (t : Tree) → canonical k t ≡ true → canonical k (freed a k at t) ≡ true
unfolding freed
freed_canonical a k at Free h = h
freed_canonical a k at Live h = free_canonical k
freed_canonical a zero at (Halves l r) h = h
freed_canonical a (suc k) at (Halves l r) h =
    let (left, right, apart) = canonical_halves k l r h in
    either_way (λ t. canonical (suc k) t ≡ true) (ltb a (at + size k))
    (joined_canonical k _ r (freed_canonical a k at l left) right)
    (joined_canonical k l _ left (freed_canonical a k (at + size k) r right))

-- where a block is delivered the tree is not free
delivered_used : (j a k at : ℕ) (t : Tree) → is_free (delivered j a k at t) ≡ false
unfolding delivered is_free
delivered_used j a zero at Free = refl
delivered_used j a (suc k) at Free =
    either_way (λ t. is_free t ≡ false) (leb (suc k) j) refl (either_way (λ t. is_free t ≡ false) (ltb a (at + size k)) refl refl)
delivered_used j a k at Live = refl
delivered_used j a zero at (Halves l r) = refl
delivered_used j a (suc k) at (Halves l r) = either_way (λ t. is_free t ≡ false) (ltb a (at + size k)) refl refl

-- delivering in one of two halves
halves_delivered : (j a k at : ℕ) (l r : Tree) → canonical k l ≡ true → canonical k r ≡ true
    → canonical k (delivered j a k at l) ≡ true → canonical k (delivered j a k (at + size k) r) ≡ true
    → canonical (suc k) (cond (ltb a (at + size k)) (Halves (delivered j a k at l) r) (Halves l (delivered j a k (at + size k) r))) ≡ true
halves_delivered j a k at l r left right newLeft newRight =
    either_way (λ t. canonical (suc k) t ≡ true) (ltb a (at + size k))
    (halves_canonical k _ r newLeft right (rw delivered_used))
    (halves_canonical k l _ left newRight (rw delivered_used (and_false (is_free l))))

-- delivering leaves a canonical block
pub delivered_canonical : (j a k at : ℕ) (t : Tree) → canonical k t ≡ true → canonical k (delivered j a k at t) ≡ true
unfolding delivered
delivered_canonical j a zero at Free h = live_canonical 0
delivered_canonical j a (suc k) at Free h =
    let unused = free_canonical k in
    either_way (λ t. canonical (suc k) t ≡ true) (leb (suc k) j) (live_canonical (suc k))
    (halves_delivered j a k at Free Free unused unused (delivered_canonical j a k at Free unused) (delivered_canonical j a k (at + size k) Free unused))
delivered_canonical j a k at Live h = h
delivered_canonical j a zero at (Halves l r) h = h
delivered_canonical j a (suc k) at (Halves l r) h =
    let (left, right, apart) = canonical_halves k l r h in
    halves_delivered j a k at l r left right (delivered_canonical j a k at l left) (delivered_canonical j a k (at + size k) r right)

-- blocks that are all free are canonical
pub all_free_canonical : (k n : ℕ) → all_canonical k (replicate n Free) ≡ true
unfolding all_canonical
all_free_canonical k zero = refl
all_free_canonical k (suc n) = rw (free_canonical k) (all_free_canonical k n)

module _ (f : ℕ → Tree → Tree) (a k : ℕ) where
  -- as many trees as before
  pub length_changed : (at : ℕ) (ts : List Tree) → length (changed f a k at ts) ≡ length ts
  unfolding changed
  length_changed at [] = refl
  length_changed at (t ∷ ts) =
      either_way (λ (new : List Tree). length new ≡ suc (length ts)) (ltb a (at + size k)) refl (ap suc (length_changed (at + size k) ts))

  -- one tree changed to a canonical one
  pub changed_canonical : ((at : ℕ) (t : Tree) → canonical k t ≡ true → canonical k (f at t) ≡ true)
      → (at : ℕ) (ts : List Tree) → all_canonical k ts ≡ true → all_canonical k (changed f a k at ts) ≡ true
  unfolding changed all_canonical
  changed_canonical keep at [] h = h
  changed_canonical keep at (t ∷ ts) h =
      let (first, others) = and_true (canonical k t) _ h in
      either_way (λ (new : List Tree). all_canonical k new ≡ true) (ltb a (at + size k))
      (rw (keep at t first) others)
      (rw first (changed_canonical keep (at + size k) ts others))

-- a map of n bytes that keeps the section and tells these trees
pub record Kept (u : SetUp) (n : ℕ) (m : List ℕ) (ts : List Tree) : Type 0 where
  pub section : keeps u m ≡ true
  pub tells : trees u m ≡ ts
  pub long : length m ≡ n

-- the map of canonical trees that fill the words
pub kept_map_of : (u : SetUp) (n : ℕ) (ts : List Tree)
    → length ts * size (top u.d) ≡ words u → words u ≤ n → all_canonical (top u.d) ts ≡ true
    → Kept u n (map_of u n ts) ts
kept_map_of u n ts fill l whole =
    record { section = keeps_map_of u ts n fill whole l; tells = trees_map_of u ts n fill whole; long = length_map_of u ts n fill l }

module _ (lent : ℕ) (u : SetUp) (fits : fitting lent u ≡ true) where
  -- the largest blocks fill the words of a fitting set-up
  pub words_whole : words u % size (top u.d) ≡ 0
  words_whole =
      let facts = fitting_facts lent u fits in
      rw facts.largest facts.whole

  -- a fresh set-up is all free
  all_free : List Tree
  all_free = replicate (words u / size (top u.d)) Free

  fresh_fills : length all_free * size (top u.d) ≡ words u
  unfolding all_free
  fresh_fills =
      let fill = div-add-mod' (words u) (size (top u.d)) in
      rw length-replicate (omega (arith, fill, words_whole))

  fresh_canonical : all_canonical (top u.d) all_free ≡ true
  unfolding all_free
  fresh_canonical = all_free_canonical _ (words u / size (top u.d))

  pub fresh_tells : (n : ℕ) → trees u (fresh_map u n) ≡ replicate (words u / size (top u.d)) Free
  unfolding fresh_map all_free
  fresh_tells n = trees_map_of u all_free n fresh_fills fresh_canonical

  -- and its map keeps the section; a map too short for the words is made long enough
  fresh_long : (n : ℕ) → words u ≤ n → keeps u (fresh_map u n) ≡ true
  unfolding fresh_map all_free
  fresh_long n l = keeps_map_of u all_free n fresh_fills fresh_canonical l

  fresh_short : (n : ℕ) → n ≤ words u → fresh_map u (words u) ≡ fresh_map u n
  unfolding fresh_map map_of
  fresh_short n l =
      let none : words u - words u ≡ n - words u = omega arith in
      ap (λ (k : ℕ). all_written (top u.d) (replicate (words u / size (top u.d)) Free) ++ replicate k 0) none

  pub fresh_section : (n : ℕ) → keeps u (fresh_map u n) ≡ true
  fresh_section n =
      by_leb (λ t. keeps u (fresh_map u n) ≡ true) (words u) n (fresh_long n)
      (λ l. rw (← (fresh_short n (omega arith))) (fresh_long (words u) (omega arith)))

  module _ (m : List ℕ) (kept : keeps u m ≡ true) where
    -- the map after one tree is changed
    keeps_changed : (f : ℕ → Tree → Tree) (a : ℕ)
        → ((at : ℕ) (t : Tree) → canonical (top u.d) t ≡ true → canonical (top u.d) (f at t) ≡ true)
        → let new = changed f a (top u.d) u.s1 (trees u m) in Kept u (length m) (map_of u (length m) new) new
    keeps_changed f a keep =
        kept_map_of u (length m) _
        (rw length_changed (trees_fill u m words_whole))
        (keeps_words u m words_whole kept)
        (changed_canonical f a _ keep u.s1 _ (keeps_parts u m kept).0)

    -- the map after a block is freed
    pub keeps_freed : (a : ℕ) → Kept u (length m) (freed_map a u m) (changed (freed a (top u.d)) a (top u.d) u.s1 (trees u m))
    unfolding freed_map
    keeps_freed a = keeps_changed (freed a (top u.d)) a (freed_canonical a (top u.d))

    -- the map after a run is delivered
    pub keeps_delivered : (j a : ℕ)
        → Kept u (length m) (delivered_map j a u m) (changed (delivered j a (top u.d)) a (top u.d) u.s1 (trees u m))
    unfolding delivered_map
    keeps_delivered j a = keeps_changed (delivered j a (top u.d)) a (delivered_canonical j a (top u.d))
