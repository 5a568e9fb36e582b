-- Laws of the block map: what is written is told again, how long a map is, and that a map of canonical trees keeps the section "Blocks".
-- Assumes nothing.
use mathlib.Core.Path.{◌≡◌, refl, sym, ap, ap₂, ◌∙◌}
use mathlib.Core.Bool.{true, not, ◌&&◌, cond, false≢true}
use mathlib.Core.List.{List, [], ◌∷◌, ◌++◌, append_assoc}
use Prim.Native.Nat.{ℕ, zero, suc, ◌+◌, ◌-◌, ◌*◌, ◌/◌, ◌%◌, ◌≤◌, ◌<◌}
use native.Mathlib.Nat.{zero-div, sub-zero, div-eq_of_eq-mul_left, div-add-mod'}
use native.Mathlib.Omega.{arith}
use lib.Dec.{eqb}
use lib.ListN.{length, get_or, take, drop, replicate, length-append, length-replicate, get_or-append}
use lib.Seq.{take_at, drop_at}
use borrow.Author.Tests.{eqb-true, eq-eqb, ne_eqb}
use Rattle.block.specs.declared.SetUp.{SetUp}
use Rattle.block.specs.Blocks.{size, Tree, Free, Live, Halves, gathered}
use Rattle.block.specs.SetUp.{top, words}
use Rattle.block.specs.Map.{free_tag, live_tag_of, written, told, is_free, canonical, all_written, all_told, all_canonical, same}
use Rattle.block.specs.Map.{trees, map_of, keeps, live, free}
use Rattle.word.proofs.Tests.{and_true}
use Rattle.block.proofs.Size.{size_zero, size_suc, size_pos}

-- a block of the k-th size has as many bytes
pub length_written : (k : ℕ) (t : Tree) → length (written k t) ≡ size k
unfolding written
length_written k Free = rw length-replicate (omega (arith, size_pos k))
length_written k Live = rw length-replicate (omega (arith, size_pos k))
length_written zero (Halves l r) = sym size_zero
length_written (suc k) (Halves l r) = rw (length-append, length_written k l, length_written k r, size_suc)

-- the trees of canonical halves are canonical, and not both are free
pub canonical_halves : (k : ℕ) (l r : Tree) → canonical (suc k) (Halves l r) ≡ true
    → (canonical k l ≡ true) × (canonical k r ≡ true) × (not (is_free l && is_free r) ≡ true)
unfolding canonical
canonical_halves k l r h =
    let (both, apart) = and_true (canonical k l && canonical k r) _ h in
    let (left, right) = and_true (canonical k l) _ both in
    (left, right, apart)

-- two halves of a canonical tree are not both free
pub both_free : {l r : Tree} → l ≡ Free → r ≡ Free → not (is_free l && is_free r) ≡ true → ⊥
unfolding is_free
both_free p q h = false≢true (rw (p, q) at h)

-- the first byte of two trees is that of the first
pub first_append : (k : ℕ) (t : Tree) (m : List ℕ) → get_or (written k t ++ m) 0 0 ≡ get_or (written k t) 0 0
first_append k t m = get_or-append (written k t) m 0 0 (rw length_written (size_pos k))

-- it is no larger than the tags of the size
pub first_le : (k : ℕ) (t : Tree) → get_or (written k t) 0 0 ≤ live_tag_of k
unfolding written free_tag live_tag_of
first_le k Free = omega arith
first_le k Live = omega arith
first_le zero (Halves l r) = omega arith
first_le (suc k) (Halves l r) = rw (first_append k l (written k r)) (omega (arith, first_le k l))

-- so halves do not begin with a tag of theirs
first_below : (k : ℕ) (l r : Tree) → (get_or (written k l ++ written k r) 0 0 < free_tag (suc k)) × (free_tag (suc k) < live_tag_of (suc k))
first_below k l r = rw (first_append k l (written k r)) (let h = first_le k l in unfold free_tag live_tag_of in omega arith)

-- the tree that the bytes tell if neither tag stands first
unfoldable pub halved : ℕ → List ℕ → Tree
halved zero m = Halves Free Free
halved (suc k) m = Halves (told k (take (size k) m)) (told k (drop (size k) m))

-- telling, for every size at once
pub told_step_lem : (k : ℕ) (m : List ℕ) → told k m
    ≡ cond (eqb (get_or m 0 0) (free_tag k)) Free (cond (eqb (get_or m 0 0) (live_tag_of k)) Live (halved k m))
unfolding told halved
told_step_lem zero m = refl
told_step_lem (suc k) m = refl

-- halves that are written are told one by one
told_halves : (k : ℕ) (l r : Tree) → told (suc k) (written k l ++ written k r) ≡ Halves (told k (written k l)) (told k (written k r))
unfolding halved
told_halves k l r =
    let (small, more) = first_below k l r in
    let notFree = ne_eqb (get_or (written k l ++ written k r) 0 0) (free_tag (suc k)) (λ e. omega arith) in
    let notLive = ne_eqb (get_or (written k l ++ written k r) 0 0) (live_tag_of (suc k)) (λ e. omega arith) in
    let long = length_written k l in
    rw (told_step_lem (suc k), notFree, notLive, take_at (written k l) _ (size k) long, drop_at (written k l) _ (size k) long)

-- a canonical tree that is written is told again
pub told_written_lem : (k : ℕ) (t : Tree) → canonical k t ≡ true → told k (written k t) ≡ t
unfolding written
told_written_lem k Free h = rw (told_step_lem, eq-eqb (free_tag k) (free_tag k) refl)
told_written_lem k Live h = rw (told_step_lem, ne_eqb (live_tag_of k) (free_tag k) (λ e. unfold free_tag live_tag_of in omega arith), eq-eqb (live_tag_of k) (live_tag_of k) refl)
told_written_lem zero (Halves l r) h = unfold canonical in cc
told_written_lem (suc k) (Halves l r) h =
    let (left, right, apart) = canonical_halves k l r h in
    told_halves k l r ∙ ap₂ Halves (told_written_lem k l left) (told_written_lem k r right)

-- and so one tree after the other
pub all_told_all_written : (k : ℕ) (ts : List Tree) → all_canonical k ts ≡ true → (rest : List ℕ)
    → all_told k (length ts) (all_written k ts ++ rest) ≡ ts
unfolding all_told all_written all_canonical
all_told_all_written k [] h rest = refl
all_told_all_written k (t ∷ ts) h rest =
    let (first, others) = and_true (canonical k t) _ h in
    let long = length_written k t in
    rw (append_assoc, take_at (written k t) _ (size k) long, drop_at (written k t) _ (size k) long)
    (ap₂ ◌∷◌ (told_written_lem k t first) (all_told_all_written k ts others rest))

-- trees have a byte for each word
pub length_all_written : (k : ℕ) (ts : List Tree) → length (all_written k ts) ≡ length ts * size k
unfolding all_written
length_all_written k [] = omega arith
length_all_written k (t ∷ ts) = rw (length-append, length_written, length_all_written k ts) (omega arith)

-- as many trees as are asked for
length_all_told : (k n : ℕ) (m : List ℕ) → length (all_told k n m) ≡ n
unfolding all_told
length_all_told k zero m = refl
length_all_told k (suc n) m = ap suc (length_all_told k n (drop (size k) m))

-- lists of which the test says so are the same
pub same_true : (xs ys : List ℕ) → same xs ys ≡ true → xs ≡ ys
unfolding same
same_true [] [] h = refl
same_true [] (y ∷ ys) h = cc
same_true (x ∷ xs) [] h = cc
same_true (x ∷ xs) (y ∷ ys) h =
    let (first, others) = and_true (eqb x y) _ h in
    ap₂ ◌∷◌ (eqb-true x y first) (same_true xs ys others)

-- it says so of a list and itself
pub same_refl : (xs : List ℕ) → same xs xs ≡ true
unfolding same
same_refl [] = refl
same_refl (x ∷ xs) = rw (eq-eqb x x refl) (same_refl xs)

module _ (u : SetUp) where
  -- a map has a byte for each word of the trees, and for each past the set-up words
  bytes : (n : ℕ) (ts : List Tree) → length (map_of u n ts) ≡ length ts * size (top u.d) + (n - words u)
  unfolding map_of
  bytes n ts = rw (length-append, length_all_written, length-replicate)

  module _ (ts : List Tree) (n : ℕ) (all : length ts * size (top u.d) ≡ words u) where
    -- a map is as long as asked for
    pub length_map_of : words u ≤ n → length (map_of u n ts) ≡ n
    length_map_of l = omega (arith, bytes n ts)

    module _ (whole : all_canonical (top u.d) ts ≡ true) where
      -- the trees of a map of trees are those
      pub trees_map_of : trees u (map_of u n ts) ≡ ts
      unfolding trees map_of
      trees_map_of =
          rw (div-eq_of_eq-mul_left (size_pos (top u.d)) (sym all)) (all_told_all_written (top u.d) ts whole (replicate (n - words u) 0))

      -- a map of canonical trees keeps the section
      pub keeps_map_of : words u ≤ n → keeps u (map_of u n ts) ≡ true
      unfolding keeps
      keeps_map_of l = rw (trees_map_of, whole, length_map_of l) (same_refl (map_of u n ts))

  module _ (m : List ℕ) where
    -- what a map that keeps the section says
    pub keeps_parts : keeps u m ≡ true → (all_canonical (top u.d) (trees u m) ≡ true) × (map_of u (length m) (trees u m) ≡ m)
    unfolding keeps
    keeps_parts h =
        let (whole, equal) = and_true (all_canonical (top u.d) (trees u m)) _ h in
        (whole, same_true _ m equal)

    -- a tree for each largest block
    pub length_trees : length (trees u m) ≡ words u / size (top u.d)
    unfolding trees
    length_trees = length_all_told _ _ m

    -- a map that keeps the section is as long as its trees and the bytes past the words
    pub keeps_long : keeps u m ≡ true → words u / size (top u.d) * size (top u.d) + (length m - words u) ≡ length m
    keeps_long h = rw length_trees at (sym (bytes (length m) (trees u m)) ∙ ap length (keeps_parts h).1)

    module _ (whole : words u % size (top u.d) ≡ 0) where
      -- the largest blocks fill the words
      pub trees_fill : length (trees u m) * size (top u.d) ≡ words u
      trees_fill = rw length_trees (omega (arith, div-add-mod' (words u) (size (top u.d))))

      -- so the map has a byte for each word
      pub keeps_words : keeps u m ≡ true → words u ≤ length m
      keeps_words h = omega (arith, ap length (keeps_parts h).1, bytes (length m) (trees u m), trees_fill)

    -- without words there is no tree
    pub trees_none : words u ≡ 0 → trees u m ≡ []
    unfolding trees all_told
    trees_none e = rw (e, zero-div)

    -- and no live block
    pub live_none : words u ≡ 0 → live u m ≡ []
    unfolding live gathered
    live_none e = rw (trees_none e)

    -- and no free block
    pub free_none : words u ≡ 0 → free u m ≡ []
    unfolding free gathered
    free_none e = rw (trees_none e)

  -- without words a map is zero
  map_of_none : (n : ℕ) → words u ≡ 0 → map_of u n [] ≡ replicate n 0
  unfolding map_of all_written
  map_of_none n e = rw (e, sub-zero)

  -- and keeps the section
  pub keeps_absent : (n : ℕ) → words u ≡ 0 → keeps u (replicate n 0) ≡ true
  keeps_absent n e = rw (map_of_none n e) at (keeps_map_of [] n (omega arith) (unfold all_canonical in refl) (omega arith))
