use Rattle.operands.specs.Reading.{seen}
use Rattle.operands.specs.Through.{through, delivered}
use Rattle.operands.proofs.Follows.{Followed}
use Rattle.operands.proofs.references.locate_through.Given as goal

abbrev pub invariant-loop-bits : goal.invariant-loop-bits
invariant-loop-bits l =
    Followed l.b (through l.b (delivered l.ahead) (seen l.bugs l.fields l.setup l.map l.storage)) l.value l.initial.bits l.spot l.bits

abbrev pub decreases-loop-bits : goal.decreases-loop-bits
decreases-loop-bits l = l.bits
