-- The lowest aligned run: the start of the first free block that is large enough. Document 01, "Blocks". Assumes nothing.
use Rattle.std.specs.Prelude.{Option, Some, None}
use Rattle.std.specs.Prelude.{ℕ, zero, suc, ◌+◌, ◌<◌, cond, List, [], ◌∷◌, nat_le, slice_index}
use Rattle.word.specs.Told.{Told, gives, refuses}
use Rattle.block.specs.Blocks.{size, Tree, Free, Live, Halves}

-- the first of a list
unfoldable pub first_of : List ℕ → Option ℕ
first_of [] = None
first_of (x ∷ xs) = Some x

-- what is found in numbers: the address, or 17
unfoldable pub told_found : Option ℕ → Told ℕ
told_found (Some a) = gives a
told_found None = refuses 17

-- the first of a list of runs, 17 where there is none
unfoldable pub first_told : List ℕ → Told ℕ
first_told [] = refuses 17
first_told (r ∷ rs) = gives r

-- what is found, or else what is found elsewhere
unfoldable pub or_else : Option ℕ → Option ℕ → Option ℕ
or_else (Some a) other = Some a
or_else None other = other

-- the start of the first free block of the j-th size or a larger in a tree of the k-th size at an address
unfoldable pub lowest_in : ℕ → ℕ → ℕ → Tree → Option ℕ
lowest_in j k at Free = Some at
lowest_in j k at Live = None
lowest_in j zero at (Halves l r) = None
lowest_in j (suc k) at (Halves l r) = cond (nat_le (suc k) j) None (or_else (lowest_in j k at l) (lowest_in j k (at + size k) r))

-- a scan from a place on, n bytes at a time, has passed bytes before the end that are below a tag, and come to another place
pub data Passed (m : List ℕ) (end least n from : ℕ) : ℕ → Type 0 where
  here : Passed m end least n from from
  more : {i : ℕ} → Passed m end least n from i → i < end → slice_index m i < least → Passed m end least n from (i + n)
