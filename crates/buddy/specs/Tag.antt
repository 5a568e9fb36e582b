-- The size of the live block of which a byte of the map is the tag. Document 01, "Blocks". Assumes nothing.
use Rattle.std.specs.Prelude.{ℕ, ◌-◌, ◌/◌, ◌%◌, cond, List, ◌==◌, nat_lt, slice_index}
use Rattle.block.specs.Blocks.{size}

-- 2, 4 .. 16 are the tags of live blocks; 0 for any other byte
unfoldable pub tag_size : ℕ → ℕ
tag_size tag = cond (nat_lt 16 tag) 0 (cond (tag % 2 == 1) 0 (cond (nat_lt tag 2) 0 (size (tag / 2 - 1))))

-- the size of the live block that starts at an address, by the byte there; 0 if none does
unfoldable pub start_size : ℕ → List ℕ → ℕ → ℕ
start_size s1 m a = cond (nat_lt a s1) 0 (tag_size (slice_index m (a - s1)))
