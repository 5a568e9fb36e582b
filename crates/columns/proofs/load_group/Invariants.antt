use Prim.Native.Nat.{◌+◌, ◌*◌, ◌/◌, ◌%◌, ◌≤◌}
use mathlib.Core.Path.{◌≡◌}
use lib.ListN.{take, drop}
use Rattle.columns.specs.Columns.{turned}
use Rattle.columns.proofs.load_group.Given as goal

abbrev pub invariant-loop-k : goal.invariant-loop-k
invariant-loop-k l = (l.k ≤ l.b / 8) × (l.group ≡ turned 8 (take (l.b % 8 + 8 * l.k) (drop l.at l.bytes)))
