-- Where the start of the first free block that is large enough is found: by the first byte and the halves. Assumes nothing.
use Rattle.std.specs.Prelude.{Option, Some, None}
use Rattle.std.proofs.Common.{◌≡◌, ℕ, suc, ◌+◌, ◌≤◌, List, [], ◌∷◌, arith, le-leb}
use borrow.Author.Tests.{lt-leb}
use Rattle.block.specs.Blocks.{size, Tree, Halves}
use Rattle.buddy.specs.Lowest.{or_else, lowest_in}

-- in one tree after the other
unfoldable pub lowest_of : ℕ → ℕ → ℕ → List Tree → Option ℕ
lowest_of j k at [] = None
lowest_of j k at (t ∷ ts) = or_else (lowest_in j k at t) (lowest_of j k (at + size k) ts)

-- nothing is no address
pub not_found : (a : ℕ) → None ≡ Some a → ⊥
not_found a e = let z : ◌≡◌ {A = ℕ} 0 1 = cc in omega arith

-- in larger halves it is looked for in both
pub lowest_large : (j k at : ℕ) (x y : Tree) → j ≤ k → lowest_in j (suc k) at (Halves x y) ≡ or_else (lowest_in j k at x) (lowest_in j k (at + size k) y)
unfolding lowest_in
lowest_large j k at x y h = rw (lt-leb (suc k) j (omega arith))

-- there is no run in halves of the wanted size
pub lowest_none : (j k at : ℕ) (x y : Tree) → suc k ≤ j → lowest_in j (suc k) at (Halves x y) ≡ None
unfolding lowest_in
lowest_none j k at x y h = rw (le-leb (suc k) j h)
