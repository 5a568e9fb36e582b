use mathlib.Core.Path.{◌≡◌}
use Rattle.character.specs.Character.{digits, number, from_binary}
use Rattle.character.proofs.Digits.{Growing}
use Rattle.character.proofs.from_binary_octal.Given as goal

abbrev pub invariant-loop-left : goal.invariant-loop-left
invariant-loop-left l =
    Growing l.n l.left l.made × (number 64 l.made (digits 8 l.left l.v) ≡ from_binary 8 l.n l.v)
