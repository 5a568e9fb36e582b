-- The three-character list, and the call that fills a buffer with it. Document 02, ticket 12. Assumes nothing.
use Rattle.std.specs.Prelude.{ℕ, zero, suc, cond, List, [], ◌∷◌, ◌++◌, eqb, length}
use Rattle.character.specs.Character.{from_binary}
use Rattle.character.specs.Thousand.{thousand}

-- the list's first n entries, worked out: entry k is the three decimal digits of k (that the 1,000 of them are the constant's is
-- proved in proofs/Entries.antt)
unfoldable pub triples : ℕ → List ℕ
triples zero = []
triples (suc n) = triples n ++ (from_binary 10 3 n ∷ [])

-- what a buffer holds after the call: the constant, entry for entry, if it is 1,000 long, otherwise what it held
unfoldable pub filled : List ℕ → List ℕ
filled buffer = cond (eqb (length buffer) 1000) thousand buffer

-- what the call answers: how many entries it filled
unfoldable pub answered : List ℕ → ℕ
answered buffer = cond (eqb (length buffer) 1000) 1000 0
