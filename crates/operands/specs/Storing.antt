-- What a store leaves in the bugs and in the storage. Assumes nothing.
use Rattle.std.specs.Prelude.{ℕ, ◌-◌, ◌%◌, ◌^◌, List, set}
use Rattle.word.specs.Field.{stored}
use Rattle.machine.specs.declared.Location.{Location}
use Rattle.machine.specs.declared.Location.TheVariants.{Bug, Field}
use Rattle.machine.specs.Storage.{word_at}

unfoldable pub bugs_stored : ℕ → Location → ℕ → List ℕ → List ℕ
bugs_stored b (Bug x) v bugs = set bugs x.0 (v % 2 ^ b)
bugs_stored b (Field address left right) v bugs = bugs

unfoldable pub words_stored : ℕ → ℕ → Location → ℕ → List ℕ → List ℕ
words_stored b s1 (Bug x) v ws = ws
words_stored b s1 (Field address left right) v ws = set ws (address - s1) (stored b left right (word_at s1 address ws) v)
