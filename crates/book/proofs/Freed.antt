-- A block freed: the live blocks of the trees are then the book's less one, and the free ones are the book's after the rejoining. The block
-- is first made free alone; free halves are then rejoined one pair after the other, from the left, in the trees as in the book.
-- Assumes nothing.
use mathlib.Core.Path.{◌≡◌, refl, sym, ap, ◌∙◌}
use mathlib.Core.Bool.{true, false, cond}
use mathlib.Core.List.Memᴰ
use mathlib.Core.List.{List, [], ◌∷◌, ◌++◌, Memᴰ}
use Prim.Native.Nat.{ℕ, zero, suc, ◌+◌, ◌%◌, ◌≤◌}
use native.Mathlib.Nat.{le_refl, le-suc, add-mod_right}
use native.Mathlib.Omega.{arith}
use lib.Dec.{ltb}
use lib.ListN.{length}
use borrow.Author.Tests.{eq-eqb}
use Rattle.block.specs.Blocks.{size, Block, Tree, Free, Live, Halves, joined, live_in, free_in, freed, gathered, changed, size_at, start, inserted}
use Rattle.block.specs.Map.{canonical, all_canonical}
use Rattle.word.proofs.Tests.{and_true}
use Rattle.block.proofs.Size.{size_suc, aligned_smaller}
use Rattle.block.proofs.Map.{canonical_halves}
use Rattle.block.proofs.Change.{freed_canonical, changed_canonical}
use Rattle.block.proofs.Each.{each_mem}
use Rattle.block.proofs.Tiling.{lies_pos, order_each, forest_order, size_at_mem}
use Rattle.block.proofs.Local.{Local, local_inserted, narrows_member, Reads, live_reads, free_reads, Here, tree_local, forest_local}
use Rattle.book.specs.Book.{without, times, halves, joined_once}
use Rattle.book.proofs.Apart.{Separate, facts_halves, refuted, separate_after, halves_meet, tree_separate, later_separate}
use Rattle.book.proofs.Apart.{forest_separate}
use Rattle.book.proofs.Local.{times_fixed, local_without}

-- the live block around address a becomes free, and nothing is rejoined
emptied : ℕ → ℕ → ℕ → Tree → Tree
emptied a k at Free = Free
emptied a k at Live = Free
emptied a zero at (Halves l r) = Halves l r
emptied a (suc k) at (Halves l r) = cond (ltb a (at + size k)) (Halves (emptied a k at l) r) (Halves l (emptied a k (at + size k) r))

-- f reads what is left when the live block x becomes free
module _ (x : Block) {g : ℕ → ℕ → Tree → List Block} {f : List Block → List Block} (reads : Reads g) (near : Local x.address f)
    (leaf : (k at : ℕ) → x ≡ record { address = at; size = size k } → g k at Free ≡ f (g k at Live)) where
  -- in one tree
  tree_emptied : (k at : ℕ) (t : Tree) → Here x.address (Memᴰ x) k at t → g k at (emptied x.address k at t) ≡ f (g k at t)
  unfolding emptied live_in
  tree_emptied k at Free here = absurd (Memᴰ.not-nil here.holds)
  tree_emptied k at Live here = leaf k at (Memᴰ.eq_of_singleton here.holds)
  tree_emptied zero at (Halves l r) here = absurd (Memᴰ.not-nil here.holds)
  tree_emptied (suc k) at (Halves l r) here =
      tree_local near (narrows_member x) reads k at l _ r _ here (tree_emptied k at l) (tree_emptied k (at + size k) r)

  -- in one tree after the other
  forest_emptied : (k at : ℕ) (ts : List Tree) → at % size k ≡ 0 → all_canonical k ts ≡ true → Memᴰ x (gathered (live_in k) k at ts)
      → gathered (g k) k at (changed (emptied x.address k) x.address k at ts) ≡ f (gathered (g k) k at ts)
  forest_emptied k at ts aligned whole m =
      let lies = each_mem (order_each (forest_order k at ts aligned).0) m in
      forest_local near (narrows_member x) reads k (emptied x.address k) (λ b t h here. tree_emptied k b t here)
      at ts aligned lies.first (omega (arith, lies_pos lies)) whole m

-- some steps of a relation
data Chain {A : Type 0} (R : A → A → Type 0) : A → A → Type 0 where
  done : {x : A} → Chain R x x
  step : {x y z : A} → R x y → Chain R y z → Chain R x z

-- and then some more
chain_append : {A : Type 0} {R : A → A → Type 0} {x y z : A} → Chain R x y → Chain R y z → Chain R x z
chain_append done d = d
chain_append (step r c) d = step r (chain_append c d)

-- each step is one of another relation
chain_map : {A B : Type 0} {R : A → A → Type 0} {S : B → B → Type 0} (f : A → B) → ((x y : A) → R x y → S (f x) (f y))
    → {x y : A} → Chain R x y → Chain S (f x) (f y)
chain_map f h done = done
chain_map f h (step {x = x} {y = y} r c) = step (h x y r) (chain_map f h c)

-- two free halves in a tree of the k-th size are rejoined, with no others to the left of them
data Rejoin : ℕ → Tree → Tree → Type 0 where
  both : {k : ℕ} → Rejoin (suc k) (Halves Free Free) Free
  left : {k : ℕ} {l m r : Tree} → Rejoin k l m → Rejoin (suc k) (Halves l r) (Halves m r)
  right : {k : ℕ} {l r s : Tree} → canonical k l ≡ true → Rejoin k r s → Rejoin (suc k) (Halves l r) (Halves l s)

-- the same in one of the trees
data RejoinOne (k : ℕ) : List Tree → List Tree → Type 0 where
  first : {t u : Tree} {ts : List Tree} → Rejoin k t u → RejoinOne k (t ∷ ts) (u ∷ ts)
  later : {t : Tree} {ts us : List Tree} → canonical k t ≡ true → RejoinOne k ts us → RejoinOne k (t ∷ ts) (t ∷ us)

-- a free tree has nothing to rejoin
not_free : {k : ℕ} {t u : Tree} → Rejoin k t u → t ≡ Free → ◌≡◌ {A = ℕ} 0 1
not_free both e = cc
not_free (left h) e = cc
not_free (right whole h) e = cc

-- rejoining two halves is one step or none
joined_rejoins : (k : ℕ) (l r : Tree) → Chain (Rejoin (suc k)) (Halves l r) (joined l r)
unfolding joined
joined_rejoins k Free Free = step both done
joined_rejoins k Free Live = done
joined_rejoins k Free (Halves a b) = done
joined_rejoins k Live r = done
joined_rejoins k (Halves a b) r = done

-- freeing is making free alone, and then rejoining
freed_rejoins : (a k at : ℕ) (t : Tree) → canonical k t ≡ true → Chain (Rejoin k) (emptied a k at t) (freed a k at t)
unfolding emptied freed
freed_rejoins a k at Free h = done
freed_rejoins a k at Live h = done
freed_rejoins a zero at (Halves l r) h = done
freed_rejoins a (suc k) at (Halves l r) h =
    let (low, high, apart) = canonical_halves k l r h in
    let below = freed_rejoins a k at l low in
    let above = freed_rejoins a k (at + size k) r high in
    elim (ltb a (at + size k)) as (λ b. Chain (Rejoin (suc k)) (cond b (Halves (emptied a k at l) r) (Halves l (emptied a k (at + size k) r)))
    (cond b (joined (freed a k at l) r) (joined l (freed a k (at + size k) r)))) [
      | true ↦ chain_append (chain_map (λ t. Halves t r) (λ t u. left) below) (joined_rejoins k _ r)
      | false ↦ chain_append (chain_map (λ t. Halves l t) (λ t u. right low) above) (joined_rejoins k l _)
    ]

-- and so in one tree after the other
forest_rejoins : (a k at : ℕ) (ts : List Tree) → all_canonical k ts ≡ true
    → Chain (RejoinOne k) (changed (emptied a k) a k at ts) (changed (freed a k) a k at ts)
unfolding changed all_canonical
forest_rejoins a k at [] h = done
forest_rejoins a k at (t ∷ ts) h =
    let (whole, others) = and_true (canonical k t) _ h in
    let below = freed_rejoins a k at t whole in
    let above = forest_rejoins a k (at + size k) ts others in
    elim (ltb a (at + size k)) as (λ b. Chain (RejoinOne k) (cond b (emptied a k at t ∷ ts) (t ∷ changed (emptied a k) a k (at + size k) ts))
    (cond b (freed a k at t ∷ ts) (t ∷ changed (freed a k) a k (at + size k) ts))) [
      | true ↦ chain_map (λ u. u ∷ ts) (λ u v. first) below
      | false ↦ chain_map (λ us. t ∷ us) (λ us vs. later whole) above
    ]

-- the first two blocks that are halves of one block become that block
data Join (d : ℕ) : List Block → List Block → Type 0 where
  here : {x y : Block} {ys : List Block} → halves d x y ≡ true → Join d (x ∷ y ∷ ys) (record { address = x.address; size = x.size + x.size } ∷ ys)
  there : {x y : Block} {ys zs : List Block} → halves d x y ≡ false → Join d (y ∷ ys) zs → Join d (x ∷ y ∷ ys) (x ∷ zs)

module _ (d : ℕ) where
  -- so the book has it
  join_once : {xs ys : List Block} → Join d xs ys → (joined_once d xs ≡ ys) × (length xs ≡ suc (length ys))
  unfolding joined_once
  join_once (here e) = (rw e, refl)
  join_once (there {x = x} e j) =
      let (once, shorter) = join_once j in
      (rw e (ap (λ (zs : List Block). x ∷ zs) once), ap suc shorter)

  -- blocks after them
  join_left : {xs ys : List Block} (zs : List Block) → Join d xs ys → Join d (xs ++ zs) (ys ++ zs)
  join_left zs (here e) = here e
  join_left zs (there e j) = there e (join_left zs j)

  -- a block before them
  join_cons : {x : Block} {xs ys : List Block} → ((y : Block) → Memᴰ y xs → halves d x y ≡ true → ⊥) → Join d xs ys → Join d (x ∷ xs) (x ∷ ys)
  join_cons apart (here e) = there (refuted (apart _ (Memᴰ.head refl))) (here e)
  join_cons apart (there e j) = there (refuted (apart _ (Memᴰ.head refl))) (there e j)

  -- blocks before them
  join_right : (xs : List Block) {ys zs : List Block} → Separate d xs (xs ++ ys) → Join d ys zs → Join d (xs ++ ys) (xs ++ zs)
  join_right [] apart j = j
  join_right (x ∷ xs) apart j =
      join_cons (λ y m. apart x y (Memᴰ.head refl) (Memᴰ.tail m))
      (join_right xs (λ v w m n. apart v w (Memᴰ.tail m) (Memᴰ.tail n)) j)

  -- blocks of which no two are halves of one block stay as they are
  separate_once : (xs : List Block) → Separate d xs xs → joined_once d xs ≡ xs
  unfolding joined_once
  separate_once [] apart = refl
  separate_once (x ∷ []) apart = refl
  separate_once (x ∷ y ∷ ys) apart =
      rw (refuted (apart x y (Memᴰ.head refl) (Memᴰ.tail (Memᴰ.head refl))))
      (ap (λ (zs : List Block). x ∷ zs) (separate_once (y ∷ ys) (λ v w m n. apart v w (Memᴰ.tail m) (Memᴰ.tail n))))

  -- so as many times as there are blocks are enough
  chain_times : {xs ys : List Block} (n : ℕ) → length xs ≤ n → joined_once d ys ≡ ys → Chain (Join d) xs ys → times n (joined_once d) xs ≡ ys
  unfolding times
  chain_times n l e done = times_fixed n (joined_once d) _ e
  chain_times zero l e (step j c) = absurd (omega (arith, join_once j))
  chain_times (suc n) l e (step j c) =
      let (once, shorter) = join_once j in
      rw once (chain_times n (omega arith) e c)

  -- what is rejoined in a tree is rejoined among its free blocks
  tree_join : {k : ℕ} {t u : Tree} (at : ℕ) → at % size k ≡ 0 → size k ≤ d → Rejoin k t u → Join d (free_in k at t) (free_in k at u)
  unfolding free_in
  tree_join at aligned small (both {k = k}) =
      let even : at % (size k + size k) ≡ 0 = rw (size_suc k) at aligned in
      let fits : size k + size k ≤ d = rw (size_suc k) at small in
      rw (size_suc k) (here (facts_halves d _ _ (record { equal = refl; next = refl; aligned = even; small = fits })))
  tree_join at aligned small (left {k = k} h) =
      join_left _ (tree_join at (aligned_smaller (le-suc k) at aligned) (omega (arith, size_suc k)) h)
  tree_join at aligned small (right {k = k} {l = l} {r = r} whole h) =
      let even = aligned_smaller (le-suc k) at aligned in
      join_right (free_in k at l)
      (separate_after d (tree_separate d k at l even whole)
      (λ x y m n e. let never = not_free h (halves_meet d k at l r x y even m n e).1 in omega arith))
      (tree_join (at + size k) (add-mod_right at (size k) ∙ even) (omega (arith, size_suc k)) h)

-- and so in one tree after the other
forest_join : {k : ℕ} {ts us : List Tree} (at : ℕ) → at % size k ≡ 0 → RejoinOne k ts us
    → Join (size k) (gathered (free_in k) k at ts) (gathered (free_in k) k at us)
unfolding gathered
forest_join {k} at aligned (first h) = join_left (size k) _ (tree_join (size k) at aligned (le_refl (size k)) h)
forest_join {k} at aligned (later {t = t} {ts = ts} whole h) =
    join_right (size k) (free_in k at t)
    (separate_after (size k) (tree_separate (size k) k at t aligned whole) (later_separate k at t ts aligned))
    (forest_join (at + size k) (add-mod_right at (size k) ∙ aligned) h)

-- rejoining changes no live block
tree_same : {k : ℕ} {t u : Tree} (at : ℕ) → Rejoin k t u → live_in k at t ≡ live_in k at u
unfolding live_in
tree_same at both = refl
tree_same at (left {k = k} {r = r} h) = ap (λ (xs : List Block). xs ++ live_in k (at + size k) r) (tree_same at h)
tree_same at (right {k = k} {l = l} whole h) = ap (λ (xs : List Block). live_in k at l ++ xs) (tree_same (at + size k) h)

-- nor in one tree after the other
forest_same : {k : ℕ} {ts us : List Tree} (at : ℕ) → RejoinOne k ts us → gathered (live_in k) k at ts ≡ gathered (live_in k) k at us
unfolding gathered
forest_same {k} at (first {ts = ts} h) = ap (λ (xs : List Block). xs ++ gathered (live_in k) k (at + size k) ts) (tree_same at h)
forest_same {k} at (later {t = t} whole h) = ap (λ (xs : List Block). live_in k at t ++ xs) (forest_same (at + size k) h)

-- nor step by step
chain_same : {k : ℕ} {ts us : List Tree} (at : ℕ) → Chain (RejoinOne k) ts us → gathered (live_in k) k at ts ≡ gathered (live_in k) k at us
chain_same at done = refl
chain_same at (step h c) = forest_same at h ∙ chain_same at c

-- a live block alone is taken out of the live ones
taken_out : (x : Block) (k at : ℕ) → x ≡ record { address = at; size = size k } → live_in k at Free ≡ without start x.address (live_in k at Live)
unfolding live_in without start
taken_out x k at e = rw (eq-eqb at x.address (cc))

-- and put into the free ones
put_in : (x : Block) (k at : ℕ) → x ≡ record { address = at; size = size k } → free_in k at Free ≡ inserted start x (free_in k at Live)
unfolding free_in inserted
put_in x k at e = ap (λ (y : Block). y ∷ []) (sym e)

module _ (a k at : ℕ) (ts : List Tree) (aligned : at % size k ≡ 0) (whole : all_canonical k ts ≡ true)
    (starts : size_at a (gathered (live_in k) k at ts) ≡ 0 → ⊥) where
  -- the live blocks after the one at address a is freed
  pub freed_live : gathered (live_in k) k at (changed (freed a k) a k at ts) ≡ without start a (gathered (live_in k) k at ts)
  freed_live =
      sym (chain_same at (forest_rejoins a k at ts whole))
      ∙ forest_emptied _ live_reads (local_without a) (taken_out _) k at ts aligned whole (size_at_mem a _ starts)

  -- the free blocks after it is freed
  pub freed_free : let more = inserted start (record { address = a; size = size_at a (gathered (live_in k) k at ts) }) (gathered (free_in k) k at ts) in
      gathered (free_in k) k at (changed (freed a k) a k at ts) ≡ times (length more) (joined_once (size k)) more
  freed_free =
      let x : Block = record { address = a; size = size_at a (gathered (live_in k) k at ts) } in
      let opened = forest_emptied x free_reads (local_inserted x) (put_in x) k at ts aligned whole (size_at_mem a _ starts) in
      let whole-after = changed_canonical (freed a k) a k (freed_canonical a k) at ts whole in
      rw (sym opened)
      (sym (chain_times (size k) _ (le_refl _) (separate_once (size k) _ (forest_separate k at _ aligned whole-after))
      (chain_map (gathered (free_in k) k at) (λ us vs h. forest_join at aligned h) (forest_rejoins a k at ts whole))))
