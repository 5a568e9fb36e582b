-- Six-bit characters in words, their digits, and the operations 24 to 31 on them. A whole word has n characters: six at 36 bits.
-- Document 01: "Operations". Assumes nothing.
use Rattle.std.specs.Prelude.{ℕ, zero, suc, ◌+◌, ◌-◌, ◌*◌, ◌/◌, ◌%◌, ◌^◌, min, Bool, true, ◌&&◌, cond, List, [], ◌∷◌, ◌++◌, eqb, ltb, replicate}
use Rattle.std.proofs.Math.Option.{Option, none, some}

-- the last n digits of v in a base, leftmost first
unfoldable pub digits : ℕ → ℕ → ℕ → List ℕ
digits base zero v = []
digits base (suc n) v = (v / base ^ n % base) ∷ digits base n v

-- the number with these digits after those of m
unfoldable pub number : ℕ → ℕ → List ℕ → ℕ
number base m [] = m
number base m (x ∷ xs) = number base (m * base + x) xs

-- the last n characters of a value, leftmost first
unfoldable pub characters : ℕ → ℕ → List ℕ
characters = digits 64

-- the value that characters make, with leading zeros
unfoldable pub packed : List ℕ → ℕ
packed = number 64 0

-- the characters that a field of this width holds: width / 6 rounded up
unfoldable pub holds : ℕ → ℕ
holds width = (width + 5) / 6

-- the blank, octal 60
unfoldable pub blank : ℕ
blank = 48

-- the period, octal 33
unfoldable pub period : ℕ
period = 27

-- the code of a digit or letter, by its name number: 0-9 are octal 0-11, A-I 21-31, J-R 41-51, S-Z 62-71
unfoldable pub code_of : ℕ → ℕ
code_of name = cond (ltb name 10) name (cond (ltb name 19) (name + 7) (cond (ltb name 28) (name + 14) (name + 22)))

-- leading characters that are x become y
unfoldable pub leading : ℕ → ℕ → List ℕ → List ℕ
leading x y [] = []
leading x y (c ∷ cs) = cond (eqb c x) (y ∷ leading x y cs) (c ∷ cs)

-- each is a digit of the base
unfoldable pub all_below : ℕ → List ℕ → Bool
all_below base [] = true
all_below base (x ∷ xs) = ltb x base && all_below base xs

-- 25 print: count characters from the right end of what a field of this width holds; blanks lead
unfoldable pub printed : ℕ → ℕ → ℕ → List ℕ
printed count width v = replicate (count - holds width) blank ++ characters (min count (holds width)) v

-- 26 blanks to zeros, in n characters: a narrow field's are led by blanks
unfoldable pub blanks_to_zeros : ℕ → ℕ → ℕ → ℕ
blanks_to_zeros n width v = packed (leading blank 0 (printed n width v))

-- 27 decimal to binary (base 10), 28 octal to binary (base 8): none where a character is no digit of the base (refusal 6)
unfoldable pub to_binary : ℕ → ℕ → ℕ → Option ℕ
to_binary base n v = cond (all_below base (characters n v)) (some (number base 0 (characters n v))) none

-- 29 binary to decimal (base 10) and 30 to octal (base 8): the last n digits are kept
unfoldable pub from_binary : ℕ → ℕ → ℕ → ℕ
from_binary base n v = packed (digits base n v)

-- 31 zeros to blanks, in n characters
unfoldable pub zeros_to_blanks : ℕ → ℕ → ℕ
zeros_to_blanks n v = packed (leading 0 blank (characters n v))
