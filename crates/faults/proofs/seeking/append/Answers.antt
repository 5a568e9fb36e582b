-- `faults::seeking::append` meets its contract. The loop's invariant: the labels put by are known. Assumes nothing.
use Rattle.faults.proofs.Telling.{appending_none, appending_more}
use Rattle.faults.proofs.seeking.append.Goals as goal

pub loop-key-init : goal.loop-key-init
loop-key-init c = appending_none _ _ _ c.requires.0 c.requires.1

pub returns-then-room-k : goal.returns-then-room-k
returns-then-room-k c = (c.loop-key.invariant.most, c.loop-key.invariant.known)

pub loop-key-preserved : goal.loop-key-preserved
loop-key-preserved c = appending_more _ _ _ c.loop-key.invariant c.if-room-k.false c.loop-key-test.true

pub returns : goal.returns
returns c = (c.loop-key.invariant.most, c.loop-key.invariant.known)
