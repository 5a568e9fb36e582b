-- An aligned run outside the live blocks exists exactly where a free block is large enough. Assumes nothing.
use Rattle.std.specs.Prelude.{Option, Some, None}
use Rattle.std.proofs.Common.{◌≡◌, ℕ, zero, suc, ◌+◌, ◌%◌, ◌<◌, ◌≤◌, true, cond, List, [], ◌∷◌, sym, refl, ◌∙◌, arith}
use mathlib.Core.Bool.{false≢true}
use native.Mathlib.Nat.{le-suc, add-mod_right}
use Rattle.block.specs.declared.SetUp.{SetUp}
use Rattle.block.specs.Blocks.{size, Block, Tree, Free, Live, Halves, free_in, gathered}
use Rattle.block.specs.SetUp.{top, fitting, runs}
use Rattle.block.specs.Map.{trees, keeps, live, free}
use Rattle.buddy.specs.Lowest.{first_of, or_else, lowest_in}
use Rattle.word.proofs.Tests.{by_leb}
use Rattle.block.proofs.Size.{size_suc, size_pos, size_mono, aligned_smaller, fitting_facts}
use Rattle.block.proofs.Change.{words_whole}
use Rattle.block.proofs.Each.{Each, each_nil, each_cons, each_append, each_parts, each_map}
use Rattle.block.proofs.Tiling.{tree_order, order_each}
use Rattle.buddy.proofs.First.{first_run}
use Rattle.buddy.proofs.Lowest.{lowest_of}

-- nothing is found where nothing is in either
or_else_nothing : (x y : Option ℕ) → or_else x y ≡ None → (x ≡ None) × (y ≡ None)
unfolding or_else
or_else_nothing (Some a) y e = (e, cc)
or_else_nothing None y e = (refl, e)

nothing_or_else : (x y : Option ℕ) → x ≡ None → y ≡ None → or_else x y ≡ None
unfolding or_else
nothing_or_else x y e f = rw (e, f)

-- a list has no first element if it has none
first_of_nothing : (xs : List ℕ) → first_of xs ≡ None → xs ≡ []
unfolding first_of
first_of_nothing [] e = refl
first_of_nothing (x ∷ xs) e = cc

module _ (j : ℕ) where
  -- each of these blocks is smaller than the j-th size
  abbrev Small : List Block → Type 0
  Small xs = Each (λ x. x.size < size j) xs

  -- the free blocks of halves are smaller than the whole
  halves_small : (k at : ℕ) (t : Tree) → at % size k ≡ 0 → k < j → Small (free_in k at t)
  halves_small k at t aligned h =
      each_map
      (λ x p.
      let (i, low, same) = p.place in
      omega (arith, size_mono low, size_suc k, size_pos k, size_mono h))
      (order_each (tree_order k at t aligned).1)

  -- where no free block of a tree is found each is too small
  none_found : (k at : ℕ) (t : Tree) → at % size k ≡ 0 → lowest_in j k at t ≡ None → Small (free_in k at t)
  unfolding lowest_in free_in
  none_found k at Free aligned e = absurd (false≢true cc)
  none_found k at Live aligned e = each_nil
  none_found zero at (Halves l r) aligned e = each_nil
  none_found (suc k) at (Halves l r) aligned e =
      let near = aligned_smaller (le-suc k) at aligned in
      let far = add-mod_right at (size k) ∙ near in
      by_leb (λ t. cond t None (or_else (lowest_in j k at l) (lowest_in j k (at + size k) r)) ≡ None → Small (free_in (suc k) at (Halves l r))) (suc k) j
      (λ s same. each_append (halves_small k at l near s) (halves_small k (at + size k) r far s))
      (λ s same.
      let (low, high) = or_else_nothing _ _ same in
      each_append (none_found k at l near low) (none_found k (at + size k) r far high))
      e

  -- and where each is too small none is found
  small_none : (k at : ℕ) (t : Tree) → j ≤ k → Small (free_in k at t) → lowest_in j k at t ≡ None
  unfolding lowest_in free_in
  small_none k at Free l (each_cons p h) = absurd (omega (arith, size_mono l))
  small_none k at Live l h = refl
  small_none zero at (Halves a b) l h = refl
  small_none (suc k) at (Halves a b) l h =
      let (low, high) = each_parts (free_in k at a) h in
      by_leb (λ t. cond t None (or_else (lowest_in j k at a) (lowest_in j k (at + size k) b)) ≡ None) (suc k) j (λ s. refl)
      (λ s. nothing_or_else _ _ (small_none k at a (omega arith) low) (small_none k (at + size k) b (omega arith) high))

  -- the same of one tree after the other
  none_found_in : (k at : ℕ) (ts : List Tree) → at % size k ≡ 0 → lowest_of j k at ts ≡ None → Small (gathered (free_in k) k at ts)
  unfolding lowest_of gathered
  none_found_in k at [] aligned e = each_nil
  none_found_in k at (t ∷ ts) aligned e =
      let (low, high) = or_else_nothing _ _ e in
      each_append (none_found k at t aligned low) (none_found_in k (at + size k) ts (add-mod_right at (size k) ∙ aligned) high)

  small_none_in : (k at : ℕ) (ts : List Tree) → j ≤ k → Small (gathered (free_in k) k at ts) → lowest_of j k at ts ≡ None
  unfolding lowest_of gathered
  small_none_in k at [] l h = refl
  small_none_in k at (t ∷ ts) l h =
      let (low, high) = each_parts (free_in k at t) h in
      nothing_or_else _ _ (small_none k at t l low) (small_none_in k (at + size k) ts l high)

module _ (lent : ℕ) (u : SetUp) (fits : fitting lent u ≡ true) (m : List ℕ) (kept : keeps u m ≡ true) (j : ℕ) (l : j ≤ top u.d) where
  -- where there is no run of the j-th size each free block is smaller
  pub no_run : runs (size j) u (live u m) ≡ [] → Each (λ x. x.size < size j) (free u m)
  unfolding free first_of
  no_run e =
      let facts = fitting_facts lent u fits in
      let none = first_run u m j (words_whole lent u fits) kept l in
      none_found_in j (top u.d) u.s1 (trees u m) (rw facts.largest facts.aligned) (none ∙ rw e)

  -- and where each is smaller there is none
  pub run_fits : Each (λ x. x.size < size j) (free u m) → runs (size j) u (live u m) ≡ []
  unfolding free
  run_fits small =
      first_of_nothing _ (sym (first_run u m j (words_whole lent u fits) kept l) ∙ small_none_in j (top u.d) u.s1 (trees u m) l small)
