-- The map of a fresh set-up, as a loop writes it into zeros: the tag of one free block after the other. Assumes nothing.
use Rattle.std.proofs.Common.{◌≡◌, ℕ, zero, suc, ◌+◌, ◌-◌, ◌*◌, ◌/◌, ◌%◌, ◌<◌, ◌≤◌, List, ◌∷◌, ◌++◌, length, set, replicate, sym, ap, ◌∙◌, append_assoc, append-nil, le_trans, mul-le-mul_right, suc-mul, zero-mul, add-one, arith}
use lib.ListN.{length-replicate, replicate-append-replicate}
use lib.Seq.{set_at}
use Rattle.block.specs.declared.SetUp.{SetUp}
use Rattle.block.specs.Blocks.{size, Free}
use Rattle.block.specs.SetUp.{top, words}
use Rattle.block.specs.Map.{free_tag, written, all_written, map_of, fresh_map}
use Rattle.block.proofs.Size.{size_pos}
use Rattle.block.proofs.Map.{length_all_written}
use Rattle.buddy.proofs.Count.{count_fill}

-- the trees of the k-th size written so far, all free, and zeros after them
unfoldable pub free_trees : ℕ → ℕ → ℕ → List ℕ
free_trees k count n = all_written k (replicate count Free) ++ replicate (n - count * size k) 0

module _ (k : ℕ) where
  -- one more tree comes last as well as first
  trees_snoc : (count : ℕ) → all_written k (replicate (suc count) Free) ≡ all_written k (replicate count Free) ++ written k Free
  unfolding all_written
  trees_snoc zero = append-nil (written k Free)
  trees_snoc (suc count) =
      ap (λ (t : List ℕ). written k Free ++ t) (trees_snoc count)
      ∙ sym (append_assoc (written k Free) (all_written k (replicate count Free)) (written k Free))

  trees_long : (count : ℕ) → length (all_written k (replicate count Free)) ≡ count * size k
  trees_long count = rw (length_all_written k (replicate count Free), length-replicate count Free)

  -- zeros for one more tree
  split_zeros : (r : ℕ) → size k ≤ r → replicate {A = ℕ} r 0 ≡ 0 ∷ (replicate (size k - 1) 0 ++ replicate (r - size k) 0)
  split_zeros r h =
      let some = size_pos k in
      let count : r ≡ suc (size k - 1 + (r - size k)) = omega arith in
      ap (λ (n : ℕ). replicate {A = ℕ} n 0) count ∙ ap (λ (t : List ℕ). 0 ∷ t) (sym (replicate-append-replicate (size k - 1) (r - size k) 0))

  -- one more tree fits, and where it ends
  pub trees_room : {done count n : ℕ} → done < count → count * size k ≤ n → (done + 1) * size k ≤ n
  trees_room {done} less h = rw add-one (le_trans (mul-le-mul_right (size k) less) h)

  pub trees_next : (done : ℕ) {i n : ℕ} → i ≡ done * size k → n ≡ size k → i + n ≡ (done + 1) * size k
  trees_next done at is = rw (at, is, add-one) (sym (suc-mul done (size k)))

  -- a free tree as its tag and zeros
  tagged : {tag : ℕ} → tag ≡ free_tag k → (xs ys : List ℕ) → xs ++ (tag ∷ (replicate (size k - 1) 0 ++ ys)) ≡ xs ++ (written k Free ++ ys)
  unfolding written
  tagged is xs ys = rw is

  module _ (n : ℕ) where
    pub trees_none : replicate n 0 ≡ free_trees k 0 n
    unfolding free_trees all_written
    trees_none = let all : n - 0 * size k ≡ n = omega (arith, zero-mul (size k)) in rw all

    pub trees_more : (count i : ℕ) → i ≡ count * size k → (count + 1) * size k ≤ n → {tag : ℕ} → tag ≡ free_tag k
        → set (free_trees k count n) i tag ≡ free_trees k (count + 1) n
    unfolding free_trees
    trees_more count i at h {tag} is =
        let before = all_written k (replicate count Free) in
        let r = n - count * size k in
        let times : (count + 1) * size k ≡ count * size k + size k = rw add-one (suc-mul count (size k)) in
        let left : n - (count + 1) * size k ≡ r - size k = omega arith in
        rw (left, split_zeros r (omega arith), set_at before 0 (replicate (size k - 1) 0 ++ replicate (r - size k) 0) tag i (trees_long count ∙ sym at))
        (rw (add-one, trees_snoc count, append_assoc) (tagged is before (replicate (r - size k) 0)))

-- zeros as long as a map
module _ (m : List ℕ) {z : List ℕ} (is : z ≡ replicate (length m) 0) where
  pub zeros_long : length z ≡ length m
  zeros_long = ap length is ∙ length-replicate (length m) 0

  pub zeros_again : z ≡ replicate (length z) 0
  zeros_again = rw zeros_long is

  -- and all the trees of a set-up in them
  pub trees_fresh : (u : SetUp) (k n w : ℕ) → k ≡ top u.d → n ≡ size k → w ≡ words u → words u % size (top u.d) ≡ 0 → {r : List ℕ}
      → r ≡ all_written k (replicate (w / n) Free) ++ replicate (length z - w / n * size k) 0 → r ≡ fresh_map u (length m)
  unfolding fresh_map map_of
  trees_fresh u k n w ek en ew whole made =
      made
      ∙ rw (zeros_long, count_fill u k n w ek en ew whole, en, ew, ek)
