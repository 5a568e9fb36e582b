use Prim.Native.Nat.{◌*◌, ◌≤◌}
use mathlib.Core.Path.{◌≡◌}
use lib.ListN.{length, take}
use lib.Seq.{sets}
use Rattle.columns.specs.Columns.{saved}
use Rattle.columns.proofs.save_all.Given as goal

abbrev pub invariant-loop-k : goal.invariant-loop-k
invariant-loop-k l =
    (l.k ≤ l.groups) × (length l.bytes ≡ length l.initial.bytes) × (l.bytes ≡ sets l.initial.bytes 0 (take (l.b * l.k) (saved l.b l.words)))
