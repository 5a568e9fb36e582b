-- `recordings::chain_length` meets its contract. The loop's invariant: the walk has passed as many rows as it has counted. Assumes nothing.
use native.Mathlib.Omega.{arith}
use Rattle.recordings.specs.Recordings.{next_of}
use Rattle.recordings.proofs.Chain.{at_start, at_next, at_more, at_zero, at_last, number_inside, some_row}
use Rattle.recordings.proofs.chain_length.Goals as goal

pub number_of-row-requires : goal.number_of-row-requires
number_of-row-requires c = number_inside _ c.requires 0 0 (some_row _ c.requires) (omega arith)

pub loop-count-init : goal.loop-count-init
unfolding next_of
loop-count-init c = (rw c.number_of-row.ensures (at_start _ c.requires), omega arith)

pub returns-then-row-eq0 : goal.returns-then-row-eq0
returns-then-row-eq0 c =
    at_zero _ c.loop-count.invariant.0 c.if-row-eq0.true c.loop-count.invariant.1

pub number_of-row-requires-in-loop-count : goal.number_of-row-requires-in-loop-count
number_of-row-requires-in-loop-count c = number_inside _ c.requires _ 0 c.loop-count.invariant.0.inside (omega arith)

pub loop-count-preserved : goal.loop-count-preserved
unfolding next_of
loop-count-preserved c =
    let more = at_more _ c.loop-count.invariant.0 c.if-row-eq0.false c.loop-count-test.true in
    (rw c.number_of-row-in-loop-count.ensures (at_next _ c.requires c.loop-count.invariant.0 more), omega arith)

pub returns : goal.returns
returns c = omega (arith, at_last _ c.loop-count.invariant.0 c.loop-count-test.false c.loop-count.invariant.1)
