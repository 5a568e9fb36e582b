use Prim.Native.Nat.{◌≤◌}
use lib.ListN.{take, drop}
use Rattle.columns.proofs.Packing.{Added}
use Rattle.columns.proofs.turned_bytes.Given as goal

abbrev pub invariant-loop-byte : goal.invariant-loop-byte
invariant-loop-byte l = (l.byte-index ≤ l.n) × Added (take l.n (drop l.at l.bytes)) l.byte-index l.made
