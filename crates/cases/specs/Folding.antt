-- The generator and the checksum in numbers. Assumes nothing.
use Rattle.std.specs.Prelude.{ℕ, ◌≡◌, ◌*◌, ◌/◌, ◌%◌, ◌^◌, bit_xor}

-- a number of 64 bits with itself moved left, or right, by so many places
unfoldable pub on_left : ℕ → ℕ → ℕ
on_left places x = bit_xor x (x * 2 ^ places % 2 ^ 64)

unfoldable pub on_right : ℕ → ℕ → ℕ
on_right places x = bit_xor x (x / 2 ^ places)

-- the generator's next state
unfoldable pub next : ℕ → ℕ
next state = on_left 17 (on_right 7 (on_left 13 state))

-- the checksum after one more result
unfoldable pub fold : ℕ → ℕ → ℕ
fold sum res = next (bit_xor sum res)

-- one more number, which any type may hold, is folded
abbrev pub Folds : {A : Type 0} → (A → ℕ → Type 0) → ℕ → A → ℕ → Type 0
Folds converts sum number after = (x : ℕ) × converts number x × (after ≡ fold sum x)
