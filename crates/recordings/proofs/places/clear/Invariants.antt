use Prim.Native.Nat.{ℕ, ◌≤◌, ◌<◌}
use mathlib.Core.Path.{◌≡◌}
use Rattle.recordings.specs.Walking.{second_at_of, Kept}
use Rattle.recordings.proofs.places.clear.Given as goal

abbrev pub invariant-loop-k : goal.invariant-loop-k
invariant-loop-k l =
    (l.k ≤ l.count) × Kept l.count l.initial.output l.output × ((j : ℕ) → j < l.k → second_at_of l.output j ≡ 0)
