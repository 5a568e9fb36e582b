use Rattle.std.specs.Slice.Iter.{split_inclusive_rest}
use Rattle.faults.proofs.Texting.{Sought}
use Rattle.faults.proofs.labels.declared.Given as goal

abbrev pub invariant-loop-s : goal.invariant-loop-s
invariant-loop-s l = Sought l.b l.text l.label (split_inclusive_rest l.s-iterator)
