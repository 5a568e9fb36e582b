use Rattle.std.specs.Slice.Iter.{split_inclusive_rest}
use Rattle.faults.proofs.Judged.{Judging}
use Rattle.faults.proofs.names.Labels.judge.Given as goal

abbrev pub invariant-loop-s : goal.invariant-loop-s
invariant-loop-s l = Judging l.self.b l.lent l.self.text.now (split_inclusive_rest l.s-iterator) l.lines l.count
