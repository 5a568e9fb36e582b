use Rattle.std.proofs.Common.{◌≡◌, length}
use Rattle.laps.proofs.run_all.Given as goal

abbrev pub invariant-loop : goal.invariant-loop
invariant-loop l =
    (length l.storage ≡ length l.initial.storage) × (length l.output ≡ length l.initial.output)
