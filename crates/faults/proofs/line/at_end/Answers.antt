-- `faults::line::at_end` meets its contract: where not one byte is left it is not the last (`not_last`), and one that is left is compared
-- (`last_byte`). Assumes nothing.
use native.Mathlib.Omega.{arith}
use Rattle.faults.proofs.Walked.{not_last, last_byte}
use Rattle.faults.proofs.line.at_end.Goals as goal

pub returns-then-s-at-ne1 : goal.returns-then-s-at-ne1
returns-then-s-at-ne1 c = not_last c.args.s.now c.args.at c.if-s-at-ne1.true

pub returns : goal.returns
returns c =
    last_byte c.args.s.now c.args.at (omega arith)

pub bounds-s-at : goal.bounds-s-at
bounds-s-at shared-slice-read-result = omega arith
