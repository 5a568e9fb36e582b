use Rattle.std.proofs.Common.{◌≡◌, length}
use Rattle.laps.proofs.step_all.Given as goal

abbrev pub invariant-loop-before : goal.invariant-loop-before
invariant-loop-before l =
    (length l.storage ≡ length l.initial.storage) × (length l.output ≡ length l.initial.output)
