-- What a reader expects of an allocator, besides tiling and runs: freeing what was delivered gives the map back, and the live blocks
-- determine the free ones. Assumes nothing.
use mathlib.Core.Path.{◌≡◌, refl, sym, ◌∙◌}
use mathlib.Core.Bool.{true, false, not, ◌&&◌, cond, false≢true}
use mathlib.Core.List.Memᴰ
use mathlib.Core.List.{List, [], ◌∷◌, ◌++◌}
use mathlib.Core.Logic.{⊎_elim}
use Prim.Native.Nat.{ℕ, zero, suc, ◌+◌, ◌%◌, ◌≤◌, ◌<◌}
use native.Mathlib.Nat.{le-suc, add-mod_right}
use native.Mathlib.Omega.{arith}
use lib.Dec.{leb, ltb}
use lib.ListN.{length}
use borrow.Author.Tests.{lt-ltb, le-ltb}
use Rattle.block.specs.declared.SetUp.{SetUp}
use Rattle.block.specs.Blocks.{size, Block, Tree, Free, Live, Halves, joined, live_in, freed, delivered, gathered, changed}
use Rattle.block.specs.Blocks.{outside}
use Rattle.block.specs.SetUp.{top, fitting}
use Rattle.block.specs.Map.{is_free, canonical, all_canonical, trees, keeps, live, free, freed_map, delivered_map}
use Rattle.word.proofs.Tests.{and_true, either_way, by_leb}
use Rattle.block.proofs.Size.{size_suc, size_pos, size_mono, aligned_smaller, fitting_facts}
use Rattle.block.proofs.Map.{canonical_halves, keeps_parts, length_trees}
use Rattle.block.proofs.Change.{keeps_delivered}
use Rattle.block.proofs.Runs.{Apart, outside_each}
use Rattle.block.proofs.Each.{Each, each_nil, each_cons, each_map, each_mem, each_parts}
use Rattle.block.proofs.Tiling.{InOrder, lies_pos, order_append, order_each, tree_order, forest_order}

-- halves that are not both free stay halves
joined_apart : (l r : Tree) → not (is_free l && is_free r) ≡ true → joined l r ≡ Halves l r
unfolding joined is_free
joined_apart Free Free h = absurd (false≢true h)
joined_apart Free Live h = refl
joined_apart Free (Halves a b) h = refl
joined_apart Live r h = refl
joined_apart (Halves a b) r h = refl

-- halves that are both free do not stand separately
both_free : (l r : Tree) → l ≡ Free → r ≡ Free → not (is_free l && is_free r) ≡ true → ⊥
unfolding is_free
both_free l r e f h = false≢true (rw (e, f) at h)

-- of two lists without an element together each is without one
append_nil : (xs ys : List Block) → xs ++ ys ≡ [] → (xs ≡ []) × (ys ≡ [])
append_nil [] ys e = (refl, e)
append_nil (x ∷ xs) ys e = (cc, cc)

module _ (j a : ℕ) where
  -- freeing at a undoes a delivery there in halves if it does in the half that holds a
  halves_undone : (k at : ℕ) (l r : Tree) → (a < at + size k → freed a k at (delivered j a k at l) ≡ l)
      → (at + size k ≤ a → freed a k (at + size k) (delivered j a k (at + size k) r) ≡ r)
      → freed a (suc k) at (cond (ltb a (at + size k)) (Halves (delivered j a k at l) r) (Halves l (delivered j a k (at + size k) r))) ≡ joined l r
  unfolding freed
  halves_undone k at l r low high =
      by_leb
      (λ t.
      freed a (suc k) at (cond t (Halves (delivered j a k at l) r) (Halves l (delivered j a k (at + size k) r))) ≡ joined l r)
      (suc a) (at + size k)
      (λ s. rw (lt-ltb a (at + size k) s, low s))
      (λ s. rw (le-ltb a (at + size k) (omega arith), high (omega arith)))

  -- in a block that is free
  free_undone : (k at : ℕ) → freed a k at (delivered j a k at Free) ≡ Free
  unfolding freed delivered joined
  free_undone zero at = refl
  free_undone (suc k) at =
      either_way (λ t. freed a (suc k) at t ≡ Free) (leb (suc k) j) refl
      (halves_undone k at Free Free (λ s. free_undone k at) (λ s. free_undone k (at + size k)))

  module _ (n : ℕ) (some : 0 < n) where
    -- in a tree where n words from a on lie outside the live blocks
    tree_undone : (k at : ℕ) (t : Tree) → canonical k t ≡ true → at ≤ a → a < at + size k → Each (Apart a n) (live_in k at t)
        → freed a k at (delivered j a k at t) ≡ t
    unfolding delivered live_in
    tree_undone k at Free h first last clear = free_undone k at
    tree_undone k at Live h first last (each_cons p clear) = absurd (⊎_elim (λ l. omega arith) (λ l. omega arith) p)
    tree_undone zero at (Halves l r) h first last clear = absurd (unfold canonical in false≢true h)
    tree_undone (suc k) at (Halves l r) h first last clear =
        let (left, right, apart) = canonical_halves k l r h in
        let (low, high) = each_parts (live_in k at l) clear in
        halves_undone k at l r (λ s. tree_undone k at l left first s low)
        (λ s. tree_undone k (at + size k) r right s (omega (arith, size_suc k)) high)
        ∙ joined_apart l r apart

    -- in one tree after the other
    forest_undone : (k at : ℕ) (ts : List Tree) → all_canonical k ts ≡ true → at ≤ a → Each (Apart a n) (gathered (live_in k) k at ts)
        → changed (freed a k) a k at (changed (delivered j a k) a k at ts) ≡ ts
    unfolding changed gathered all_canonical
    forest_undone k at [] h first clear = refl
    forest_undone k at (t ∷ ts) h first clear =
        let (here, others) = and_true (canonical k t) _ h in
        let (low, high) = each_parts (live_in k at t) clear in
        by_leb
        (λ s.
        changed (freed a k) a k at (cond s (delivered j a k at t ∷ ts) (t ∷ changed (delivered j a k) a k (at + size k) ts)) ≡ t ∷ ts)
        (suc a) (at + size k)
        (λ s. rw (lt-ltb a (at + size k) s, tree_undone k at t here first s low))
        (λ s. rw (le-ltb a (at + size k) (omega arith), forest_undone k (at + size k) ts others (omega arith) high))

module _ (lent : ℕ) (u : SetUp) (fits : fitting lent u ≡ true) (m : List ℕ) (kept : keeps u m ≡ true) where
  -- freeing what was delivered gives the map back
  pub freed_delivered : (j a n : ℕ) → 0 < n → u.s1 ≤ a → outside a n (live u m) ≡ true → freed_map a u (delivered_map j a u m) ≡ m
  unfolding freed_map live
  freed_delivered j a n some first clear =
      let facts = keeps_delivered lent u fits m kept j a in
      let (whole, same) = keeps_parts u m kept in
      rw (facts.long, facts.tells, forest_undone j a n some (top u.d) u.s1 (trees u m) whole first (outside_each a n _ clear)) same

-- lists where all is below an address in the one and not in the other do not start alike
unlike : (c : ℕ) (x : Block) (xs ys : List Block) → x.address < c → Each (λ y. c ≤ y.address) ys → ys ≡ x ∷ xs → ⊥
unlike c x xs ys p each_nil e = false≢true cc
unlike c x xs ys p (each_cons {x = y} q h) e =
    let same : y.address ≡ x.address = cc in
    omega arith

-- two lists are equal part by part where all is below an address in the first part of each and not in the second
parts : (c : ℕ) (xs vs : List Block) {ys ws : List Block} → Each (λ x. x.address < c) xs → Each (λ x. x.address < c) vs
    → Each (λ x. c ≤ x.address) ys → Each (λ x. c ≤ x.address) ws → xs ++ ys ≡ vs ++ ws → (xs ≡ vs) × (ys ≡ ws)
parts c [] [] h l high later e = (refl, e)
parts c [] (v ∷ vs) h (each_cons q l) high later e = absurd (unlike c v _ _ q high e)
parts c (x ∷ xs) [] (each_cons p h) l high later e = absurd (unlike c x _ _ p later (sym e))
parts c (x ∷ xs) (v ∷ vs) {ys} {ws} (each_cons p h) (each_cons q l) high later e =
    let others : xs ++ ys ≡ vs ++ ws = cc in
    let (low, rest) = parts c xs vs h l high later others in
    (cc, rest)

-- a canonical tree without live blocks is free
none_live : (k at : ℕ) (t : Tree) → canonical k t ≡ true → live_in k at t ≡ [] → t ≡ Free
unfolding live_in
none_live k at Free h e = refl
none_live k at Live h e = cc
none_live zero at (Halves l r) h e = absurd (unfold canonical in false≢true h)
none_live (suc k) at (Halves l r) h e =
    let (left, right, apart) = canonical_halves k l r h in
    let (low, high) = append_nil (live_in k at l) _ e in
    absurd (both_free l r (none_live k at l left low) (none_live k (at + size k) r right high) apart)

module _ (k at : ℕ) (aligned : at % size k ≡ 0) where
  -- the live blocks of the low half lie there, and so do those of the high half
  low_live : (l : Tree) → InOrder k at (at + size k) (live_in k at l)
  low_live l = (tree_order k at l aligned).0

  high_live : (r : Tree) → InOrder k (at + size k) (at + size k + size k) (live_in k (at + size k) r)
  high_live r = (tree_order k (at + size k) r (add-mod_right at (size k) ∙ aligned)).0

  -- so they start before the high half, or not
  low_starts : (l : Tree) → Each (λ x. x.address < at + size k) (live_in k at l)
  low_starts l = each_map (λ x p. omega (arith, p, lies_pos p)) (order_each (low_live l))

  high_starts : (r : Tree) → Each (λ x. at + size k ≤ x.address) (live_in k (at + size k) r)
  high_starts r = each_map (λ x p. p.first) (order_each (high_live r))

  -- and they are smaller than a block that is not halved
  smaller : (l r : Tree) (x : Block) → x.size ≡ size (suc k) → live_in k at l ++ live_in k (at + size k) r ≡ x ∷ [] → ⊥
  smaller l r x same e =
      let p = each_mem {x = x} (order_each (order_append (low_live l) (high_live r))) (rw e (Memᴰ.head refl)) in
      let (j, low, one) = p.place in
      omega (arith, size_mono low, size_suc k, size_pos k)

-- canonical trees with the same live blocks are the same
live_tree : (k at : ℕ) (t s : Tree) → canonical k t ≡ true → canonical k s ≡ true → at % size k ≡ 0 → live_in k at t ≡ live_in k at s → t ≡ s
unfolding live_in
live_tree k at Free s h l aligned e = sym (none_live k at s l (sym e))
live_tree k at Live Free h l aligned e = cc
live_tree k at Live Live h l aligned e = refl
live_tree zero at Live (Halves a b) h l aligned e = absurd (unfold canonical in false≢true l)
live_tree (suc k) at Live (Halves a b) h l aligned e = absurd (smaller k at (aligned_smaller (le-suc k) at aligned) a b _ refl (sym e))
live_tree zero at (Halves a b) s h l aligned e = absurd (unfold canonical in false≢true h)
live_tree (suc k) at (Halves a b) Free h l aligned e = none_live (suc k) at (Halves a b) h e
live_tree (suc k) at (Halves a b) Live h l aligned e = absurd (smaller k at (aligned_smaller (le-suc k) at aligned) a b _ refl e)
live_tree (suc k) at (Halves a b) (Halves c d) h l aligned e =
    let near = aligned_smaller (le-suc k) at aligned in
    let far = add-mod_right at (size k) ∙ near in
    let (left, right, apart) = canonical_halves k a b h in
    let (left', right', apart') = canonical_halves k c d l in
    let (low, high) = parts (at + size k) _ _ (low_starts k at near a) (low_starts k at near c) (high_starts k at near b) (high_starts k at near d) e in
    let same = live_tree k at a c left left' near low in
    let others = live_tree k (at + size k) b d right right' far high in
    cc

-- and so are as many trees one after the other
live_trees : (k at : ℕ) (ts vs : List Tree) → length ts ≡ length vs → all_canonical k ts ≡ true → all_canonical k vs ≡ true → at % size k ≡ 0
    → gathered (live_in k) k at ts ≡ gathered (live_in k) k at vs → ts ≡ vs
unfolding gathered all_canonical
live_trees k at [] [] n h l aligned e = refl
live_trees k at [] (v ∷ vs) n h l aligned e = absurd (omega arith)
live_trees k at (t ∷ ts) [] n h l aligned e = absurd (omega arith)
live_trees k at (t ∷ ts) (v ∷ vs) n h l aligned e =
    let far = add-mod_right at (size k) ∙ aligned in
    let (here, others) = and_true (canonical k t) _ h in
    let (here', others') = and_true (canonical k v) _ l in
    let starts : (xs : List Tree) → Each (λ x. at + size k ≤ x.address) (gathered (live_in k) k (at + size k) xs)
    = λ xs. each_map (λ x p. p.first) (order_each (forest_order k (at + size k) xs far).0) in
    let (low, high) = parts (at + size k) _ _ (low_starts k at aligned t) (low_starts k at aligned v) (starts ts) (starts vs) e in
    let same = live_tree k at t v here here' aligned low in
    let rest = live_trees k (at + size k) ts vs (omega arith) others others' far high in
    cc

-- the live blocks determine the trees
live_same_trees : (lent : ℕ) (u : SetUp) → fitting lent u ≡ true → (m n : List ℕ) → keeps u m ≡ true → keeps u n ≡ true
    → live u m ≡ live u n → trees u m ≡ trees u n
unfolding live
live_same_trees lent u fits m n h l e =
    let facts = fitting_facts lent u fits in
    live_trees (top u.d) u.s1 (trees u m) (trees u n) (length_trees u m ∙ sym (length_trees u n)) (keeps_parts u m h).0 (keeps_parts u n l).0
    (rw facts.largest facts.aligned) e

-- and so the free blocks
pub live_free : (lent : ℕ) (u : SetUp) → fitting lent u ≡ true → (m n : List ℕ) → keeps u m ≡ true → keeps u n ≡ true
    → live u m ≡ live u n → free u m ≡ free u n
unfolding free
live_free lent u fits m n h l e = rw (live_same_trees lent u fits m n h l e)

-- and the map, where they are as long
pub live_map : (lent : ℕ) (u : SetUp) → fitting lent u ≡ true → (m n : List ℕ) → length m ≡ length n → keeps u m ≡ true → keeps u n ≡ true
    → live u m ≡ live u n → m ≡ n
live_map lent u fits m n long h l e =
    sym (keeps_parts u m h).1 ∙ rw (live_same_trees lent u fits m n h l e, long) (keeps_parts u n l).1
