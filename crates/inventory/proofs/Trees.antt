-- What is listed of a map that keeps its section: a line for each free block, a line and its words for each live one, in the order of their
-- addresses, tree by tree. Assumes nothing.
use Prim.Native.Nat.{ℕ, zero, suc, ◌+◌, ◌-◌, ◌*◌, ◌%◌, ◌<◌, ◌≤◌, min}
use native.Mathlib.Nat.{add-zero}
use native.Mathlib.Omega.{arith}
use mathlib.Core.Bool.{true, false, ◌&&◌}
use mathlib.Core.List.{List, [], ◌∷◌, ◌++◌, append-nil, append_assoc}
use mathlib.Core.Path.{◌≡◌, refl, sym, ap, ◌∙◌}
use borrow.Author.Tests.{eq-eqb, ne_eqb}
use lib.ListN.{length, get_or, replicate, get_or-append, get_or-replicate, length-replicate, length-append}
use lib.Seq.{get_or-append-add}
use Rattle.word.proofs.Tests.{and_true}
use Rattle.block.specs.Blocks.{Tree, Free, Live, Halves, size}
use Rattle.block.specs.declared.SetUp.{SetUp}
use Rattle.block.specs.SetUp.{top, words}
use Rattle.block.specs.Map.{free_tag, live_tag_of, written, canonical, all_written, all_canonical, trees, map_of, keeps}
use Rattle.block.proofs.Size.{size_pos, size_suc}
use Rattle.block.proofs.Map.{length_written, keeps_parts, trees_fill}
use Rattle.inventory.specs.Inventory.{octal, word_end, texts, block_line, is_live_of, start_text, owner, content_text, stored_text}
use Rattle.inventory.specs.Inventory.{storage_text}
use Rattle.inventory.proofs.Owners.{owner_here, owner_before}

-- two runs of places
texts_append : (f : ℕ → List ℕ) (i m n : ℕ) → texts f i (m + n) ≡ texts f i m ++ texts f (i + m) n
unfolding texts
texts_append f i zero n = let same : 0 + n ≡ n = omega arith in ap (texts f i) same ∙ ap (λ (j : ℕ). texts f j n) (sym (add-zero i))
texts_append f i (suc m) n =
    let one : suc m + n ≡ suc (m + n) = omega arith in
    let next : suc i + m ≡ i + suc m = omega arith in
    ap (texts f i) one
    ∙ ap (λ (l : List ℕ). f i ++ l) (texts_append f (suc i) m n)
    ∙ ap (λ (j : ℕ). f i ++ (texts f (suc i) m ++ texts f j n)) next
    ∙ sym (append_assoc (f i) (texts f (suc i) m) (texts f (i + suc m) n))

texts_none : (i n : ℕ) → texts (λ _. []) i n ≡ []
unfolding texts
texts_none i zero = refl
texts_none i (suc n) = texts_none (suc i) n

-- the tags of a block's first word
live_is : (k : ℕ) → is_live_of (live_tag_of k) ≡ true
unfolding is_live_of live_tag_of
live_is k = rw (ne_eqb (suc (suc (k + k))) 0 (λ e. omega arith), eq-eqb (suc (suc (k + k)) % 2) 0 (omega arith))

free_is : (k : ℕ) → is_live_of (free_tag k) ≡ false
unfolding is_live_of free_tag
free_is k = rw (ne_eqb (suc (k + k)) 0 (λ e. omega arith), ne_eqb (suc (k + k) % 2) 0 (λ e. omega arith))

live_starts : (address k : ℕ) → start_text address (live_tag_of k) ≡ block_line "block" address (live_tag_of k)
unfolding start_text live_tag_of
live_starts address k = rw (ne_eqb (suc (suc (k + k))) 0 (λ e. omega arith), eq-eqb (suc (suc (k + k)) % 2) 0 (omega arith))

free_starts : (address k : ℕ) → start_text address (free_tag k) ≡ block_line "free" address (free_tag k)
unfolding start_text free_tag
free_starts address k = rw (ne_eqb (suc (k + k)) 0 (λ e. omega arith), ne_eqb (suc (k + k) % 2) 0 (λ e. omega arith))

none_starts : (address tag : ℕ) → tag ≡ 0 → start_text address tag ≡ []
unfolding start_text
none_starts address tag none = rw (eq-eqb tag 0 none)

-- these bytes stand in a map from a place on
abbrev pub Stands : List ℕ → ℕ → List ℕ → Type 0
Stands map i bytes = (j : ℕ) → j < length bytes → get_or map (i + j) 0 ≡ get_or bytes j 0

module _ (s1 : ℕ) (storage : List ℕ) where
  -- a word of a live block
  abbrev pub word_line : ℕ → List ℕ
  word_line i = octal 5 (s1 + i) ++ word_end (get_or storage i 0)

  -- the lines of a tree of the k-th size whose words begin at a place
  unfoldable pub tree_text : ℕ → ℕ → Tree → List ℕ
  tree_text k i Free = block_line "free" (s1 + i) (free_tag k)
  tree_text k i Live = block_line "block" (s1 + i) (live_tag_of k) ++ texts word_line i (size k)
  tree_text zero i (Halves l r) = []
  tree_text (suc k) i (Halves l r) = tree_text k i l ++ tree_text k (i + size k) r

  -- one tree after the other
  unfoldable pub forest_text : ℕ → ℕ → List Tree → List ℕ
  forest_text k i [] = []
  forest_text k i (t ∷ ts) = tree_text k i t ++ forest_text k (i + size k) ts

module _ (s1 : ℕ) (map storage : List ℕ) where
  abbrev stored : ℕ → List ℕ
  stored = stored_text s1 map storage

  -- words that are no starts belong to the block before them
  module _ (tag : ℕ) (g : ℕ → List ℕ) (is : (j : ℕ) → content_text (s1 + j) tag (get_or storage j 0) ≡ g j) where
    run : (i n : ℕ) → owner map i ≡ tag → ((j : ℕ) → j < n → get_or map (suc i + j) 0 ≡ 0) → texts stored (suc i) n ≡ texts g (suc i) n
    unfolding texts stored_text
    run i zero own zeros = refl
    run i (suc n) own zeros =
        let here : get_or map (suc i) 0 ≡ 0 = ap (λ (m : ℕ). get_or map m 0) (sym (add-zero (suc i))) ∙ zeros 0 (omega arith) in
        let less : suc i - 1 ≡ i = omega arith in
        let next : owner map (suc i) ≡ tag = owner_before map (suc i) (omega arith) here ∙ ap (owner map) less ∙ own in
        let later = run (suc i) n next (λ j h. let step : suc (suc i) + j ≡ suc i + suc j = omega arith in
        ap (λ (m : ℕ). get_or map m 0) step ∙ zeros (suc j) (omega arith)) in
        rw (none_starts (s1 + suc i) (get_or map (suc i) 0) here, next, is (suc i), later)

    -- a whole block: what its first word says, and the words
    whole : (i k : ℕ) (line : List ℕ) → get_or map i 0 ≡ tag → (tag ≡ 0 → ⊥) → start_text (s1 + i) tag ≡ line
        → ((j : ℕ) → j < size k - 1 → get_or map (suc i + j) 0 ≡ 0) → texts stored i (size k) ≡ line ++ texts g i (size k)
    unfolding texts stored_text
    whole i k line first some starts zeros =
        let own : owner map i ≡ tag = owner_here map i (λ none. some (sym first ∙ none)) ∙ first in
        let count : size k ≡ suc (size k - 1) = omega (arith, size_pos k) in
        rw count (rw (first, own, is i, starts, run i (size k - 1) own zeros) (append_assoc line (g i) (texts g (suc i) (size k - 1))))

  module _ (k i tag : ℕ) (here : Stands map i (tag ∷ replicate (size k - 1) 0)) where
    first_is : get_or map i 0 ≡ tag
    first_is = ap (λ (m : ℕ). get_or map m 0) (sym (add-zero i)) ∙ here 0 (omega arith)

    zeros_after_lem : (j : ℕ) → j < size k - 1 → get_or map (suc i + j) 0 ≡ 0
    zeros_after_lem j h =
        let step : suc i + j ≡ i + suc j = omega arith in
        ap (λ (m : ℕ). get_or map m 0) step
        ∙ here (suc j) (omega (arith, length-replicate {A = ℕ} (size k - 1) 0))
        ∙ get_or-replicate {A = ℕ} (size k - 1) j 0 0 h

  -- a tree that is written out in the map
  pub tree_listed : (k i : ℕ) (t : Tree) → canonical k t ≡ true → Stands map i (written k t) → texts stored i (size k) ≡ tree_text s1 storage k i t
  unfolding tree_text written canonical content_text
  tree_listed k i Free good here =
      whole (free_tag k) (λ _. []) (λ j. rw (free_is k)) i k _ (first_is k i (free_tag k) here) (λ none. unfold free_tag in omega arith)
      (free_starts (s1 + i) k) (zeros_after_lem k i (free_tag k) here)
      ∙ ap (λ (l : List ℕ). block_line "free" (s1 + i) (free_tag k) ++ l) (texts_none i (size k))
      ∙ append-nil (block_line "free" (s1 + i) (free_tag k))
  tree_listed k i Live good here =
      whole (live_tag_of k) (word_line s1 storage) (λ j. rw (live_is k)) i k _ (first_is k i (live_tag_of k) here) (λ none. unfold live_tag_of in omega arith)
      (live_starts (s1 + i) k) (zeros_after_lem k i (live_tag_of k) here)
  tree_listed zero i (Halves l r) good here = let z : ◌≡◌ {A = ℕ} 0 1 = cc in absurd (omega arith)
  tree_listed (suc k) i (Halves l r) good here =
      let halves = and_true (canonical k l && canonical k r) _ good in
      let both = and_true (canonical k l) (canonical k r) halves.0 in
      let long = length_written k l in
      ap (texts stored i) (size_suc k)
      ∙ texts_append stored i (size k) (size k)
      ∙ ap (λ (x : List ℕ). x ++ texts stored (i + size k) (size k))
      (tree_listed k i l both.0 (λ j h. here j (omega (arith, length_both k l r)) ∙ get_or-append (written k l) (written k r) 0 j h))
      ∙ ap (λ (x : List ℕ). tree_text s1 storage k i l ++ x)
      (tree_listed k (i + size k) r both.1 (λ j h. let place : i + size k + j ≡ i + (length (written k l) + j) = omega arith in
      ap (λ (m : ℕ). get_or map m 0) place
      ∙ here (length (written k l) + j) (omega (arith, length_both k l r))
      ∙ get_or-append-add (written k l) (written k r) j 0))
    where
      length_both : (k : ℕ) (l r : Tree) → length (written k l ++ written k r) ≡ length (written k l) + length (written k r)
      length_both k l r = length-append (written k l) (written k r)

  -- trees one after the other
  pub forest_listed : (k i : ℕ) (ts : List Tree) → all_canonical k ts ≡ true → Stands map i (all_written k ts)
      → texts stored i (length ts * size k) ≡ forest_text s1 storage k i ts
  unfolding forest_text all_written all_canonical texts
  forest_listed k i [] good here = let none : length {A = Tree} [] * size k ≡ 0 = omega arith in ap (texts stored i) none
  forest_listed k i (t ∷ ts) good here =
      let both = and_true (canonical k t) (all_canonical k ts) good in
      let long = length_written k t in
      let count : length (t ∷ ts) * size k ≡ size k + length ts * size k = omega arith in
      let parts = length-append (written k t) (all_written k ts) in
      ap (texts stored i) count
      ∙ texts_append stored i (size k) (length ts * size k)
      ∙ ap (λ (x : List ℕ). x ++ texts stored (i + size k) (length ts * size k))
      (tree_listed k i t both.0 (λ j h. here j (omega arith) ∙ get_or-append (written k t) (all_written k ts) 0 j h))
      ∙ ap (λ (x : List ℕ). tree_text s1 storage k i t ++ x)
      (forest_listed k (i + size k) ts both.1 (λ j h. let place : i + size k + j ≡ i + (length (written k t) + j) = omega arith in
      ap (λ (m : ℕ). get_or map m 0) place
      ∙ here (length (written k t) + j) (omega arith)
      ∙ get_or-append-add (written k t) (all_written k ts) j 0))

-- so the listing has the blocks of a state's map: `trees` are those that `live` and `free` gather their blocks from
module _ (u : SetUp) (map storage : List ℕ) (fills : words u % size (top u.d) ≡ 0) (good : keeps u map ≡ true) (few : words u ≤ 4096) where
  pub blocks_listed : storage_text u map storage ≡ forest_text u.s1 storage (top u.d) 0 (trees u map)
  unfolding storage_text map_of
  blocks_listed =
      let parts = keeps_parts u map good in
      let bytes = all_written (top u.d) (trees u map) in
      let count : min (words u) 4096 ≡ length (trees u map) * size (top u.d) = omega (arith, trees_fill u map fills) in
      ap (texts (stored_text u.s1 map storage) 0) count
      ∙ forest_listed u.s1 map storage (top u.d) 0 (trees u map) parts.0
      (λ j h. let place : 0 + j ≡ j = omega arith in
      ap (λ (m : ℕ). get_or map m 0) place
      ∙ ap (λ (l : List ℕ). get_or l j 0) (sym parts.1)
      ∙ get_or-append bytes (replicate (length map - words u) 0) 0 j h)
