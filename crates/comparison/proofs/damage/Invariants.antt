use Rattle.std.proofs.Common.{◌≡◌, length}
use Rattle.comparison.proofs.damage.Given as goal

abbrev pub invariant-loop-pair : goal.invariant-loop-pair
invariant-loop-pair l = length l.storage ≡ length l.initial.storage
