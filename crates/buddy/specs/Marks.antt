-- What the check of a map counts: the blocks that its bytes tell, and all bytes that are not zero. Document 01, "Blocks", and of
-- refusal 11 "blocks breaking their section". Assumes nothing.
use Rattle.std.specs.Prelude.{◌≡◌, ℕ, zero, suc, ◌+◌, ◌-◌, ◌*◌, ◌/◌, ◌%◌, ◌<◌, ◌≤◌, Bool, true, cond, not, ◌&&◌, ◌||◌, List, [], ◌∷◌, take, drop, ◌==◌, nat_le, nat_lt, slice_index, slice_index_or}
use Rattle.block.specs.Blocks.{size}
use Rattle.block.specs.Map.{free_tag, live_tag_of, written, told, canonical}

-- a byte that is not zero marks a block
unfoldable pub mark : ℕ → ℕ
mark zero = 0
mark (suc x) = 1

-- how many bytes are not zero
unfoldable pub marks : List ℕ → ℕ
marks [] = 0
marks (x ∷ xs) = mark x + marks xs

-- a byte is the tag of a free or a live block of the k-th size
unfoldable pub is_tag : ℕ → ℕ → Bool
is_tag k x = x == free_tag k || x == live_tag_of k

-- the number of blocks of the tree of the k-th size that the bytes tell; 0 if the tree breaks the section
unfoldable pub counted : ℕ → List ℕ → ℕ
counted k m = cond (canonical k (told k m)) (marks (written k (told k m))) 0

-- the level of the block of which a byte is the tag
unfoldable pub tag_level : ℕ → ℕ
tag_level x = (x - 1) / 2

-- a free block of n words at a place is the high half of a block of which the low half is free too
unfoldable pub is_rest : ℕ → ℕ → ℕ → List ℕ → Bool
is_rest x n i m = x % 2 == 1 && i / n % 2 == 1 && slice_index m (i - n) == x

-- a block starts at a place of a tree of the k-th size and keeps the section: its byte is the tag of a size up to the tree's, its
-- size divides the place, and it is no half that should have been rejoined
unfoldable pub starts_block : ℕ → ℕ → List ℕ → Bool
starts_block k i m =
    let x = slice_index_or m i 0 in
    let n = size (tag_level x) in
    nat_lt 0 x && nat_le x (live_tag_of k) && i % n == 0 && not (is_rest x n i m)

-- a number, and the blocks of so many trees, one after the other; 0 if one of them is broken
unfoldable pub all_counted : ℕ → ℕ → ℕ → List ℕ → ℕ
all_counted k zero sum m = sum
all_counted k (suc count) sum m =
    cond (counted k (take (size k) m) == 0) 0 (all_counted k count (sum + counted k (take (size k) m)) (drop (size k) m))

-- the trees of the k-th size that start in the first so many bytes are one block each
abbrev pub TagsAt : ℕ → List ℕ → ℕ → Type 0
TagsAt k m bytes = (i : ℕ) → i < bytes → i % size k ≡ 0 → is_tag k (slice_index m i) ≡ true

-- so many trees of the k-th size from a place on start before an end and are one block each
pub record WholeTrees (k : ℕ) (m : List ℕ) (end from many : ℕ) : Type 0 where
  pub within : (t : ℕ) → t < many → from + t * size k < end
  pub whole : (t : ℕ) → t < many → is_tag k (slice_index m (from + t * size k)) ≡ true

-- trees passed from a place on, up to an end: those left, and the number with the blocks of those passed, give what all of them
-- gave
pub record Passing (k : ℕ) (m : List ℕ) (end from before at sum left : ℕ) : Type 0 where
  pub rest : ℕ
  pub fills : at + rest * size k ≡ end
  pub onward : from ≤ at
  pub same : all_counted k left before (drop from m) ≡ all_counted k rest sum (drop at m)
  pub few : sum + 256 * rest ≤ before + 256 * left

-- the same of as many trees as there are up to the end
abbrev pub PassedOver : ℕ → List ℕ → ℕ → ℕ → ℕ → ℕ → ℕ → Type 0
PassedOver k m end from before at sum = (left : ℕ) → from + left * size k ≡ end → Passing k m end from before at sum left
