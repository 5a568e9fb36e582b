use Prim.Native.Nat.{ℕ}
use Rattle.operands.specs.Reading.{seen, set_up_of, Readable}
use Rattle.operands.proofs.Follows.{Followed}
use Rattle.operands.proofs.references.follow.Given as goal

abbrev pub invariant-loop-left : goal.invariant-loop-left
invariant-loop-left l =
    (d s2 : ℕ) → Readable l.b (seen l.bugs l.fields (set_up_of d l.s1 s2) l.map l.storage)
    → Followed l.b (seen l.bugs l.fields (set_up_of d l.s1 s2) l.map l.storage) l.value l.initial.left l.spot l.left

abbrev pub decreases-loop-left : goal.decreases-loop-left
decreases-loop-left l = l.left
