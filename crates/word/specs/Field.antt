-- Fields of a word of b bits: bits left to right, both inside the word; left > right makes the null field.
-- Document 01: "Fields and references". Assumes nothing.
use Rattle.std.specs.Prelude.{ℕ, suc, ◌+◌, ◌-◌, ◌*◌, ◌/◌, ◌%◌, ◌^◌}

-- width: right - left + 1, or 0 for the null field
unfoldable pub width : ℕ → ℕ → ℕ
width left right = suc right - left

-- the places right of a field whose last bit is right
unfoldable pub shift : ℕ → ℕ → ℕ
shift b right = b - suc right

-- what a field reads: its bits as a number, and 0 for the null field
unfoldable pub field_of : ℕ → ℕ → ℕ → ℕ → ℕ
field_of b left right w = w / 2 ^ shift b right % 2 ^ width left right

-- what a store keeps: the value's rightmost bits that fit
unfoldable pub kept : ℕ → ℕ → ℕ → ℕ
kept left right v = v % 2 ^ width left right

-- a store changes no other bit: the word's bits left of the field, the bits kept, and the word's bits right of it
unfoldable pub stored : ℕ → ℕ → ℕ → ℕ → ℕ → ℕ
stored b left right w v =
    w / 2 ^ (width left right + shift b right) * 2 ^ (width left right + shift b right)
    + kept left right v * 2 ^ shift b right
    + w % 2 ^ shift b right

-- the same by the field's width n and the places s right of it
unfoldable pub bits_of : ℕ → ℕ → ℕ → ℕ
bits_of n s w = w / 2 ^ s % 2 ^ n

unfoldable pub stored_in : ℕ → ℕ → ℕ → ℕ → ℕ
stored_in n s w v = w / 2 ^ (n + s) * 2 ^ (n + s) + v % 2 ^ n * 2 ^ s + w % 2 ^ s
