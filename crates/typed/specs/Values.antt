-- The values of arguments by their kinds. Assumes nothing.
use Rattle.std.specs.Prelude.{ℕ, suc, ◌-◌, List, map}
use Rattle.character.specs.Character.{number}
use Rattle.lines.specs.declared.Kind.{Kind}
use Rattle.lines.specs.declared.Kind.TheVariants.{Field, Decimal, Octal, Hollerith}
use Rattle.lines.specs.Words.{name_number, character_code}

-- the base of a value: 10 for a decimal literal, 8 for an octal one, 64 for a Hollerith one and for a reference
unfoldable pub base_of : Kind → ℕ
base_of Decimal = 10
base_of Octal = 8
base_of _ = 64

-- the digit of a byte
unfoldable pub digit_as : Kind → ℕ → ℕ
digit_as Field x = suc (name_number x)
digit_as Hollerith x = character_code x
digit_as _ x = x - 48

-- the value of bytes after those that make m
unfoldable pub value_from : Kind → ℕ → List ℕ → ℕ
value_from kind m w = number (base_of kind) m (map (digit_as kind) w)
