use mathlib.Core.Path.{◌≡◌}
use mathlib.Core.Option.{none, some}
use Rattle.character.specs.Character.{digits, to_binary}
use Rattle.character.proofs.Digits.{Growing, answer}
use Rattle.character.proofs.to_binary.Given as goal

abbrev pub invariant-loop-left : goal.invariant-loop-left
invariant-loop-left l =
    Growing l.n l.left l.made × (answer some none l.base l.made (digits 64 l.left l.v) ≡ to_binary l.base l.n l.v)
