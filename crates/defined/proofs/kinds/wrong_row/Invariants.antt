use mathlib.Core.Path.{◌≡◌}
use Prim.Native.Nat.{◌-◌, ◌/◌, ◌≤◌}
use lib.ListN.{length}
use Rattle.table.specs.Row.{rows}
use Rattle.defined.specs.Kinds.{lowest_wrong}
use Rattle.defined.proofs.kinds.wrong_row.Given as goal

abbrev pub invariant-loop-r : goal.invariant-loop-r
invariant-loop-r l =
    (1 ≤ l.r) × (lowest_wrong l.table 1 (rows l.table - 1) ≡ lowest_wrong l.table l.r (length l.table / 10 - l.r))
