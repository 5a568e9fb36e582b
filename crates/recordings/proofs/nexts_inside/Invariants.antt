use Prim.Native.Nat.{◌≤◌}
use mathlib.Core.Path.{◌≡◌}
use Rattle.recordings.specs.Recordings.{row_count, nexts_inside}
use Rattle.recordings.proofs.nexts_inside.Given as goal

abbrev pub invariant-loop-row : goal.invariant-loop-row
invariant-loop-row l =
    (l.row ≤ row_count l.list) × (nexts_inside l.list l.row ≡ nexts_inside l.list (row_count l.list))
