use Prim.Native.Nat.{◌-◌}
use lib.ListN.{length}
use Rattle.faults.proofs.Walked.{Walked}
use Rattle.faults.proofs.line.scan.Given as goal

abbrev pub invariant-loop-start : goal.invariant-loop-start
invariant-loop-start l = Walked l.b l.s l.at l.walk

abbrev pub decreases-loop-start : goal.decreases-loop-start
decreases-loop-start l = length l.s - l.at
