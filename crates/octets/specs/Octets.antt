-- Numbers as bytes, low first. Assumes nothing.
use Rattle.std.specs.Prelude.{ℕ, zero, suc, ◌+◌, ◌*◌, ◌/◌, ◌%◌, List, [], ◌∷◌}

-- the number of these bytes, low first
unfoldable pub low_first : List ℕ → ℕ
low_first [] = 0
low_first (x ∷ xs) = x + 256 * low_first xs

-- the n low bytes of a number, low first
unfoldable pub bytes_of : ℕ → ℕ → List ℕ
bytes_of zero v = []
bytes_of (suc n) v = v % 256 ∷ bytes_of n (v / 256)
