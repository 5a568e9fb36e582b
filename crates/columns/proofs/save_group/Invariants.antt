use Prim.Native.Nat.{◌+◌, ◌*◌, ◌/◌, ◌%◌, ◌≤◌}
use mathlib.Core.Path.{◌≡◌}
use lib.ListN.{take}
use lib.Seq.{sets}
use Rattle.columns.specs.Columns.{turned}
use Rattle.columns.proofs.save_group.Given as goal

abbrev pub invariant-loop-k : goal.invariant-loop-k
invariant-loop-k l = (l.k ≤ l.b / 8) × (l.bytes ≡ sets l.fn.bytes l.to (take (l.b % 8 + 8 * l.k) (turned l.b l.group)))
