-- `faults::line::is_enough` meets its contract: its tests joined are the definition. Assumes nothing.
use borrow.Author.Tests.{eq-eqb, ne_eqb}
use Rattle.faults.specs.Checking.{enough_at}
use Rattle.faults.proofs.line.is_enough.Goals as goal

pub returns-then-c-eq-THEN : goal.returns-then-c-eq-THEN
unfolding enough_at
returns-then-c-eq-THEN c = rw (eq-eqb _ 0 c.if-c-eq-THEN.true)

pub returns : goal.returns
unfolding enough_at
returns c = rw (ne_eqb _ 0 c.if-c-eq-THEN.false)
