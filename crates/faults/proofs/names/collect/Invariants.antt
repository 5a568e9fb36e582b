use Prim.Native.Nat.{◌<◌}
use lib.ListN.{length}
use Rattle.std.specs.Slice.Iter.{split_inclusive_rest}
use Rattle.faults.proofs.Naming.{Collecting}
use Rattle.faults.proofs.names.collect.Given as goal

abbrev pub invariant-loop-s : goal.invariant-loop-s
invariant-loop-s l = Collecting l.b l.text l.room (length l.initial.room) (split_inclusive_rest l.s-iterator) l.n l.before × (l.n < 800)
