-- Locations as numbers, so that they pass in one register: a bug by its letter, a field by its word's address, its right and its
-- left bit, the two bits in eight bits each. An address is no less than 1, so no number is both. Assumes nothing.
use Rattle.std.specs.Prelude.{ℕ, ◌/◌, ◌%◌, cond, ltb}
use Rattle.machine.specs.declared.Location.{Location}
use Rattle.machine.specs.declared.Location.TheVariants.{Bug, Field}
use Rattle.machine.specs.Locate.{width_of}

-- the location that a number stands for
unfoldable pub located : ℕ → Location
located n = cond (ltb n 65536) (Bug (record { 0 = n })) (Field (n / 65536) (n % 256) (n / 256 % 256))

-- how many bits it has
abbrev pub bits_at : ℕ → ℕ → ℕ
bits_at b n = width_of b (located n)
