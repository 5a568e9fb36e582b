use mathlib.Core.Bool.{◌&&◌}
use mathlib.Core.Path.{◌≡◌}
use lib.ListN.{drop}
use Rattle.machine.specs.Sound.{every, is_definition}
use Rattle.soundness.proofs.are_fields.Given as goal

abbrev pub invariant-loop-definition : goal.invariant-loop-definition
invariant-loop-definition l =
    every (is_definition l.b) l.definitions ≡ (l.all && every (is_definition l.b) (drop l.definition-index l.definitions))
