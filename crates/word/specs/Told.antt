-- Answers in the papers' numbers. For every enum that a function answers with, a definition `toldName` gives each case its number,
-- which is the refusal's or 0 where nothing is refused, and its values; promises on answers go through it.
-- Document 01: "Our forms for each place". Assumes nothing.
use Rattle.std.specs.Prelude.{ℕ, List, [], ◌∷◌}

-- a number and values
pub data Told (A : Type 0) : Type 0 where
  tells : ℕ → List A → Told A

-- nothing is refused: 0, and what is given
abbrev pub gives : {A : Type 0} → A → Told A
gives x = tells 0 (x ∷ [])

-- a refusal by its number, with no value
abbrev pub refuses : {A : Type 0} → ℕ → Told A
refuses n = tells n []

-- the number, and the first value, 0 where there is none
unfoldable pub number : {A : Type 0} → Told A → ℕ
number (tells n xs) = n

unfoldable pub value : Told ℕ → ℕ
value (tells n []) = 0
value (tells n (x ∷ xs)) = x
