use Rattle.std.proofs.Common.{◌≡◌, true}
use Rattle.machine.specs.Sound.{every, is_definition}
use Rattle.allocations.proofs.references.definitions.Given as goal

abbrev pub invariant-loop-i : goal.invariant-loop-i
invariant-loop-i l = every (is_definition 36) l.all ≡ true
