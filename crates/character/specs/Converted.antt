-- The answers of operations 24, 27 and 28 in document 01's numbers: those of the code, and those that the definitions give.
-- Document 01: "From the input". Assumes nothing.
use Rattle.std.specs.Prelude.{cond, List, ℕ, Option as Answer, Some, None}
use Rattle.std.proofs.Math.Option.{Option, none, some}
use Rattle.word.specs.Told.{Told, gives, refuses}
use Rattle.character.specs.Character.{packed, all_below}

unfoldable pub told_converted : Answer ℕ → Told ℕ
told_converted (Some x) = gives x
told_converted None = refuses 6

unfoldable pub told_packed : Answer ℕ → Told ℕ
told_packed (Some x) = gives x
told_packed None = refuses 4

-- 27 and 28: the number, where each character is a digit of the base, otherwise 6
unfoldable pub converting : Option ℕ → Told ℕ
converting none = refuses 6
converting (some x) = gives x

-- 24: the value that input bytes make, where each is a character, otherwise 4
unfoldable pub packing : List ℕ → Told ℕ
packing cs = cond (all_below 64 cs) (gives (packed cs)) (refuses 4)
