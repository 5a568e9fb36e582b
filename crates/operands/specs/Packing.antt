-- Definitions packed into numbers, so that code can lend them: whether one is defined, its word, its left and its right bit, eight
-- bits each. Assumes nothing.
use Rattle.std.specs.Prelude.{ℕ, ◌/◌, ◌%◌, not, List, map, eqb}
use Rattle.machine.specs.declared.Definition.{Definition}

-- the definition that a number stands for
unfoldable pub unpacked : ℕ → Definition
unpacked x = record { defined = not (eqb (x % 256) 0); word = x / 256 % 256; left = x / 65536 % 256; right = x / 16777216 }

unfoldable pub unpacked_all : List ℕ → List Definition
unpacked_all = map unpacked
