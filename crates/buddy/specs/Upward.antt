-- A block seen from itself upward: the halves beside it and beside those around it, up to the root of its tree. What a free goes
-- along. Document 01, "Blocks": "Two free halves of one block no larger than d are rejoined". Assumes nothing.
use Rattle.std.specs.Prelude.{◌≡◌, ℕ, suc, ◌+◌, ◌-◌, ◌*◌, ◌/◌, List, slice_set}
use Rattle.block.specs.Blocks.{size, Tree, Free, Halves, joined}
use Rattle.block.specs.Map.{free_tag, written}

-- from a block of the j-th size to a tree of the k-th: each time the block is a low half beside a high one, or a high half beside a
-- low one
pub data Path : ℕ → ℕ → Type 0 where
  root : {k : ℕ} → Path k k
  low : {j k : ℕ} → Tree → Path (suc j) k → Path j k
  high : {j k : ℕ} → Tree → Path (suc j) k → Path j k

-- the tree in which t is what stands there
unfoldable pub plug : {j k : ℕ} → Path j k → Tree → Tree
plug root t = t
plug (low r p) t = plug p (Halves t r)
plug (high l p) t = plug p (Halves l t)

-- the place of its first word
unfoldable pub place : {j k : ℕ} → Path j k → ℕ
place root = 0
place (low r p) = place p
place (high {j} l p) = place p + size j

-- the tree in which t comes to stand there and free halves are rejoined
unfoldable pub rejoined : {j k : ℕ} → Path j k → Tree → Tree
rejoined root t = t
rejoined (low r p) t = rejoined p (joined t r)
rejoined (high l p) t = rejoined p (joined l t)

-- where the block of two halves of n words starts that is around a place
unfoldable pub pair_start : ℕ → ℕ → ℕ
pair_start n at = at / (n + n) * (n + n)

-- and where its other half starts, the one that does not start at the place
unfoldable pub other_place : ℕ → ℕ → ℕ
other_place n at = pair_start n at + pair_start n at + n - at

-- a free block of the j-th size is to stand at a place, and its tag is all that the bytes lack: rejoined upward they are these
pub record Rises (k j at : ℕ) (bytes new : List ℕ) : Type 0 where
  pub path : Path j k
  pub here : at ≡ place path
  pub tagged : slice_set bytes at (free_tag j) ≡ written k (plug path Free)
  pub risen : new ≡ written k (rejoined path Free)

abbrev pub Rising : ℕ → ℕ → ℕ → List ℕ → Type 0
Rising k j at bytes = (new : List ℕ) × Rises k j at bytes new
