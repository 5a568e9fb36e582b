-- The width that a program is given by the word after its name. Document 02, ticket 9. Assumes nothing.
use Rattle.std.specs.Prelude.{ℕ, ◌&&◌, cond, List, eqb, length, get_or}

-- of two characters, 36 or 48; 0, which is no width, of any others
unfoldable pub width_of_two : ℕ → ℕ → ℕ
width_of_two x y = cond (eqb x 51 && eqb y 54) 36 (cond (eqb x 52 && eqb y 56) 48 0)

-- 36 where no word is given
unfoldable pub width_of : List ℕ → ℕ
width_of word = cond (eqb (length word) 0) 36 (cond (eqb (length word) 2) (width_of_two (get_or word 0 0) (get_or word 1 0)) 0)
