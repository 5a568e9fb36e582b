-- Numbers at a place among bytes, and records of one length, one after the other. Assumes nothing.
use Rattle.std.specs.Prelude.{ℕ, zero, suc, List, [], ◌∷◌, ◌++◌, take, drop}
use Rattle.octets.specs.Octets.{low_first}

-- the number of the n bytes from a place on, low first
unfoldable pub number_at : ℕ → ℕ → List ℕ → ℕ
number_at at n bytes = low_first (take n (drop at bytes))

-- the bytes of records, one after the other
unfoldable pub bytes_of_all : {A : Type 0} → (A → List ℕ) → List A → List ℕ
bytes_of_all put [] = []
bytes_of_all put (x ∷ xs) = put x ++ bytes_of_all put xs

-- n records of w bytes each, read one after the other
unfoldable pub records_of : {A : Type 0} → (List ℕ → A) → ℕ → ℕ → List ℕ → List A
records_of read w zero bytes = []
records_of read w (suc n) bytes = read (take w bytes) ∷ records_of read w n (drop w bytes)
