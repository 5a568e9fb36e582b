-- `faults::names::row_beside` meets its contract. The loop's invariant: the number is not among those passed. Assumes nothing.
use Rattle.faults.proofs.Naming.{seeking_none, seeking_found, seeking_more, seeking_all}
use Rattle.faults.proofs.names.row_beside.Goals as goal

pub loop-label-init : goal.loop-label-init
loop-label-init c = seeking_none _ _

pub returns-then-label-key : goal.returns-then-label-key
returns-then-label-key c = seeking_found _ _ c.loop-label.invariant _ c.loop-label-test.true c.if-label-key.true

pub loop-label-preserved : goal.loop-label-preserved
loop-label-preserved c = seeking_more _ _ c.loop-label.invariant _ c.loop-label-test.true c.if-label-key.false

pub returns : goal.returns
returns c = seeking_all _ _ c.loop-label.invariant c.loop-label-test.false
