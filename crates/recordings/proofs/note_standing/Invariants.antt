use Prim.Native.Nat.{◌≤◌}
use Rattle.recordings.proofs.Growing.{Passing}
use Rattle.recordings.proofs.note_standing.Given as goal

abbrev pub invariant-loop-i : goal.invariant-loop-i
invariant-loop-i l =
    Passing l.list l.initial.output l.initial.heads l.output l.heads l.size l.count l.row l.i × (l.i ≤ l.steps)
