use Prim.Native.Nat.{◌≤◌}
use lib.ListN.{length}
use Rattle.recordings.specs.Recordings.{chain}
use Rattle.recordings.proofs.Chain.{At}
use Rattle.recordings.proofs.chain_length.Given as goal

abbrev pub invariant-loop-count : goal.invariant-loop-count
invariant-loop-count l = At l.list l.count l.row × (l.count ≤ length (chain l.list))
