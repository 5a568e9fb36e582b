-- Words of b bits as numbers below 2 ^ b, and what the operations 8 to 23 make of them. An engine's b is 36 or 48.
-- Document 01: "Words and set-up" and "Operations"; document 02, ticket 9. Assumes nothing.
use Rattle.std.specs.Prelude.{ℕ, zero, suc, ◌+◌, ◌-◌, ◌*◌, ◌/◌, ◌%◌, ◌^◌, min, max, Bool, cond, ◌&&◌, ◌||◌, ◌==◌, nat_le, nat_lt}

-- the widths of an engine's words; with any other a call answers 31 (ticket 9)
unfoldable pub is_width : ℕ → Bool
is_width b = b == 36 || b == 48

-- bit p of a word of b bits; bit 0 is leftmost
unfoldable pub bit : ℕ → ℕ → ℕ → ℕ
bit b w p = w / 2 ^ (b - suc p) % 2

-- 8 add: on whole numbers modulo 2 ^ b
unfoldable pub sum : ℕ → ℕ → ℕ → ℕ
sum b x y = (x + y) % 2 ^ b

-- 10 multiply: modulo 2 ^ b
unfoldable pub product : ℕ → ℕ → ℕ → ℕ
product b x y = (x * y) % 2 ^ b

-- 11 divide: to the nearest whole number, at an exact half to the even neighbour (ticket 10)
unfoldable pub nearest : ℕ → ℕ → ℕ
nearest x y =
    cond (nat_lt y (2 * (x % y)) || (y == 2 * (x % y) && x / y % 2 == 1)) (suc (x / y)) (x / y)

-- 15 complement: all b bits
unfoldable pub complement : ℕ → ℕ → ℕ
complement b x = 2 ^ b - suc x

-- the word of b bits whose each bit is f of the bits of x and y at its place
unfoldable pub bitwise : (ℕ → ℕ → ℕ) → ℕ → ℕ → ℕ → ℕ
bitwise f zero x y = 0
bitwise f (suc b) x y = f (x % 2) (y % 2) + 2 * bitwise f b (x / 2) (y / 2)

-- 12 or: one where either bit is one
unfoldable pub either : ℕ → ℕ → ℕ → ℕ
either = bitwise max

-- 13 and: one where both bits are one
unfoldable pub both : ℕ → ℕ → ℕ → ℕ
both = bitwise min

-- 14 exclusive or: one where the bits differ
unfoldable pub differing : ℕ → ℕ → ℕ → ℕ
differing = bitwise (λ x y. (x + y) % 2)

-- 16 count ones: in a field of width w with contents v
unfoldable pub ones : ℕ → ℕ → ℕ
ones zero v = 0
ones (suc w) v = v % 2 + ones w (v / 2)

-- 17 count zeros: the field's other bits
unfoldable pub zeros : ℕ → ℕ → ℕ
zeros w v = w - ones w v

-- 18, 20: the place from the left of the leftmost bit that is t, or the width w
unfoldable pub leftmost : ℕ → ℕ → ℕ → ℕ
leftmost t zero v = 0
leftmost t (suc w) v = cond (v / 2 ^ w % 2 == t) 0 (suc (leftmost t w v))

-- the place of the rightmost t among the first k bits, which are v, of a field of width w; w if none is
unfoldable pub rightmost_of : ℕ → ℕ → ℕ → ℕ → ℕ
rightmost_of t w zero v = w
rightmost_of t w (suc k) v = cond (v % 2 == t) k (rightmost_of t w k (v / 2))

-- 19, 21: the place from the left of the rightmost bit that is t, or the width w
unfoldable pub rightmost : ℕ → ℕ → ℕ → ℕ
rightmost t w v = rightmost_of t w w v

-- 22 left shift by n within a field of width w; n of the width or more gives 0
unfoldable pub left_shift : ℕ → ℕ → ℕ → ℕ
left_shift w v n = cond (nat_le w n) 0 (v * 2 ^ n % 2 ^ w)

-- 23 right shift by n within a field of width w; n of the width or more gives 0
unfoldable pub right_shift : ℕ → ℕ → ℕ → ℕ
right_shift w v n = cond (nat_le w n) 0 (v / 2 ^ n)
