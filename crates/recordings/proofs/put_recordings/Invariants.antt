use Prim.Native.Nat.{◌≤◌}
use mathlib.Core.Path.{◌≡◌}
use Rattle.recordings.proofs.Putting.{partly}
use Rattle.recordings.proofs.put_recordings.Given as goal

abbrev pub invariant-loop-k : goal.invariant-loop-k
invariant-loop-k l = (l.k ≤ l.count) × (l.output ≡ partly l.list l.initial.output l.k)
