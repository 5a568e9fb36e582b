-- More words after those set up: the numbers, which new last addresses are taken, and the block map.
-- Document 02: ticket 11. Assumes nothing.
use Rattle.std.specs.Prelude.{ℕ, ◌-◌, ◌/◌, ◌%◌, Bool, ◌&&◌, List, ◌++◌, eqb, leb, ltb, length, replicate}
use Rattle.block.specs.declared.SetUp.{SetUp}
use Rattle.block.specs.Blocks.{size, Free}
use Rattle.block.specs.SetUp.{top, words}
use Rattle.block.specs.Map.{trees, map_of}

-- the numbers of a set-up with another last address
unfoldable pub extended_to : ℕ → SetUp → SetUp
extended_to last u = record { d = u.d; s1 = u.s1; s2 = last }

-- the new last address is the old one plus a positive multiple of d, passes neither 32,767 nor 4,096 words, nor those lent;
-- otherwise 32
unfoldable pub extending : ℕ → ℕ → SetUp → Bool
extending lent last u =
    ltb u.s2 last
    && eqb ((last - u.s2) % u.d) 0
    && leb last 32767
    && leb (words (extended_to last u)) 4096
    && leb (words (extended_to last u)) lent

-- the map after it: the trees as they were, and then a free block of size d for each d words added
unfoldable pub extended_map : ℕ → SetUp → List ℕ → List ℕ
extended_map last u m =
    map_of (extended_to last u) (length m) (trees u m ++ replicate ((last - u.s2) / size (top u.d)) Free)
