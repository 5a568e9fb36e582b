use Prim.Native.Nat.{◌<◌}
use lib.ListN.{length}
use Rattle.std.specs.Slice.Iter.{split_inclusive_rest}
use Rattle.faults.proofs.Finding.{Sifting}
use Rattle.faults.proofs.seeking.seek.Given as goal

abbrev pub invariant-loop-s : goal.invariant-loop-s
invariant-loop-s l = Sifting l.b l.text l.n (length l.initial.sought) (split_inclusive_rest l.s-iterator) l.m l.sought × (l.m < l.n)
