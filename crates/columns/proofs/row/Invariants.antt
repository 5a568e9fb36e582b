use Prim.Native.Nat.{suc, ◌≤◌, ◌-◌}
use mathlib.Core.Path.{◌≡◌}
use lib.ListN.{take, drop}
use Rattle.columns.proofs.Bits.{Gathered}
use Rattle.columns.proofs.row.Given as goal

abbrev pub invariant-loop-byte : goal.invariant-loop-byte
invariant-loop-byte l =
    (l.byte-index ≤ l.b) × (l.n ≡ l.b) × (l.right ≡ 8 - suc l.i) × Gathered 8 l.i (take l.b (drop l.at l.bytes)) l.byte-index l.made
