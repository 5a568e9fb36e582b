-- Eight numbers below 256 packed into one of 64 bits, the first in its lowest byte, and what the calls' inner functions do with
-- them. Assumes nothing.
use Rattle.std.specs.Prelude.{ℕ, zero, suc, ◌+◌, ◌-◌, ◌*◌, ◌/◌, ◌%◌, ◌^◌, List, [], ◌∷◌}
use Rattle.character.specs.Character.{number}
use Rattle.columns.specs.Columns.{bits_at}

-- n numbers, each in a byte
unfoldable pub packed : ℕ → (ℕ → ℕ) → ℕ
packed zero f = 0
packed (suc n) f = f 0 + 256 * packed n (λ j. f (suc j))

-- the lowest n bytes of a number
unfoldable pub unpacked : ℕ → ℕ → List ℕ
unpacked zero x = []
unpacked (suc n) x = (x % 256) ∷ unpacked n (x / 256)

-- the bits of a byte, leftmost first
unfoldable pub spread_of : ℕ → ℕ
spread_of x = packed 8 (λ j. x / 2 ^ (8 - suc j) % 2)

-- for each of eight bit places of bytes, leftmost first, the number that holds that bit of each
unfoldable pub packed_turned : List ℕ → ℕ
packed_turned xs = packed 8 (λ j. number 2 0 (bits_at 8 j xs))

-- eight bits of each of these numbers, with so many to their right
unfoldable pub octets : ℕ → List ℕ → List ℕ
octets right [] = []
octets right (x ∷ xs) = (x / 2 ^ right % 256) ∷ octets right xs

-- numbers with eight bits more, those in the bytes of x
unfoldable pub longer : List ℕ → ℕ → List ℕ
longer [] x = []
longer (w ∷ ws) x = (w * 256 + x % 256) ∷ longer ws (x / 256)
