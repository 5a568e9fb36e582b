use Prim.Native.Nat.{◌≤◌, ◌-◌, ◌/◌}
use mathlib.Core.Path.{◌≡◌}
use lib.ListN.{length}
use Rattle.table.specs.Row.{rows}
use Rattle.table.specs.Table.{lowest_from}
use Rattle.table.proofs.check.lowest_ill_formed.Given as goal

abbrev pub invariant-loop-r : goal.invariant-loop-r
invariant-loop-r l =
    (1 ≤ l.r) × (lowest_from l.b l.table 1 (rows l.table - 1) ≡ lowest_from l.b l.table l.r (length l.table / 10 - l.r))
