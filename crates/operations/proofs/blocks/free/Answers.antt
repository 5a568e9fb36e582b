-- `operations::blocks::free` meets its contract: 15, 18. Assumes nothing.
use Rattle.operations.specs.Deeds.{meant}
use Rattle.operations.proofs.Answers.{does, stops}
use Rattle.operations.proofs.Doing.{free_none, free_inside, free_done}
use Rattle.operations.proofs.blocks.free.Goals as goal

pub live_size-n-requires : goal.live_size-n-requires
live_size-n-requires c = (c.requires.0, c.requires.1)

pub returns-then-n-eq0 : goal.returns-then-n-eq0
returns-then-n-eq0 c = stops (free_none _ _ _ c.live_size-n.ensures c.if-n-eq0.true)

pub returns-then-lies_in : goal.returns-then-lies_in
returns-then-lies_in c =
    stops (free_inside _ _ _ c.live_size-n.ensures c.if-n-eq0.false c.lies_in.ensures
    c.if-lies_in.true)

pub returns : goal.returns
unfolding meant
returns c =
    does _ (free_done _ _ _ c.live_size-n.ensures c.if-n-eq0.false c.lies_in.ensures
    c.if-lies_in.false)
