use Prim.Native.Nat.{◌+◌, ◌-◌, ◌≤◌}
use mathlib.Core.Path.{◌≡◌}
use Rattle.inventory.specs.Inventory.{owner}
use Rattle.inventory.proofs.owner_of.Given as goal

abbrev pub invariant-loop-at : goal.invariant-loop-at
invariant-loop-at l = (l.at ≤ l.i + 1) × (1 ≤ l.at) × (owner l.map l.i ≡ owner l.map (l.at - 1))
