use Prim.Native.Nat.{◌≤◌}
use lib.ListN.{length}
use Rattle.recordings.specs.Recordings.{chain}
use Rattle.recordings.proofs.Growing.{Passing}
use Rattle.recordings.proofs.note_few.Given as goal

abbrev pub invariant-loop-i : goal.invariant-loop-i
invariant-loop-i l =
    Passing l.list l.initial.pairs l.initial.heads l.pairs l.heads 0 l.count l.row l.i × (l.i ≤ length (chain l.list)) × (l.count ≤ 1023)
