-- The live or the free blocks of a map as numbers, and which set-ups and maps have blocks at all. Assumes nothing.
use Rattle.std.specs.Prelude.{ℕ, ◌%◌, Bool, true, false, not, ◌&&◌, ◌||◌, cond, List, [], ◌∷◌, eqb}
use Rattle.block.specs.declared.SetUp.{SetUp}
use Rattle.block.specs.Blocks.{Block}
use Rattle.block.specs.SetUp.{fitting, absent}
use Rattle.block.specs.Map.{keeps, live, free}

-- set-up numbers that fit 4,096 words, or none yet, and a map that keeps its section; otherwise refusal 11
unfoldable pub are_blocks : SetUp → List ℕ → Bool
are_blocks u m = (fitting 4096 u || absent u) && keeps u m

-- the live blocks, or the free ones, lowest first
unfoldable pub blocks : Bool → SetUp → List ℕ → List Block
blocks true u m = live u m
blocks false u m = free u m

-- address and size of each
unfoldable pub numbers_of : List Block → List ℕ
numbers_of [] = []
numbers_of (x ∷ xs) = x.address ∷ x.size ∷ numbers_of xs

-- a block of this tag is one of those asked for: a live block's tag is even, a free one's odd
unfoldable pub wanted : Bool → ℕ → Bool
wanted live tag = cond (eqb (tag % 2) 0) live (not live)

-- the two numbers of a block that is one of them
unfoldable pub pair_if : Bool → ℕ → ℕ → List ℕ
pair_if asked address size = cond asked (address ∷ size ∷ []) []
