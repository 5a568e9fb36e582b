use mathlib.Core.Path.{◌≡◌}
use Rattle.character.specs.Character.{digits, number, characters, packed, leading}
use Rattle.character.proofs.Digits.{Growing}
use Rattle.character.proofs.changed.Given as goal

abbrev pub invariant-loop-left : goal.invariant-loop-left
invariant-loop-left l =
    Growing l.n l.left l.made × (number 64 l.made (leading l.old l.new (digits 64 l.left l.v)) ≡ packed (leading l.old l.new (characters l.n l.v)))
