-- `recordings::places::put_head` meets its contract: heads in numbers apart, and in the pairs. Assumes nothing.
use native.Mathlib.Omega.{arith}
use Rattle.recordings.proofs.Pushing.{apart, within, head_apart, head_within}
use Rattle.recordings.proofs.places.put_head.Goals as goal

pub overflow_cast-heads : goal.overflow_cast-heads
overflow_cast-heads c =
    omega (arith, c.requires.2)

pub offset_bounds-heads-chain : goal.offset_bounds-heads-chain
offset_bounds-heads-chain c =
    let inside = apart c.args.size c.args.chain c.args.heads.now c.requires.0 c.if-size-eq0.true in omega arith

pub bounds-heads-chain : goal.bounds-heads-chain
bounds-heads-chain c =
    apart c.args.size c.args.chain c.args.heads.now c.requires.0 c.if-size-eq0.true

pub returns-then-size-eq0 : goal.returns-then-size-eq0
returns-then-size-eq0 c =
    head_apart c.args.size c.args.chain c.args.head c.if-size-eq0.true _ c.requires.0

pub second_of-second-requires : goal.second_of-second-requires
second_of-second-requires c =
    omega (arith, within c.args.size c.args.chain c.args.heads.now c.requires.0 c.if-size-eq0.false, c.requires.1)

pub overflow_mul-head : goal.overflow_mul-head
overflow_mul-head c =
    omega (arith, c.requires.2)

pub overflow_add-head : goal.overflow_add-head
overflow_add-head c =
    omega (arith, c.requires.2)

pub put_second-requires : goal.put_second-requires
put_second-requires c =
    omega (arith, within c.args.size c.args.chain c.args.heads.now c.requires.0 c.if-size-eq0.false, c.requires.1)

pub returns : goal.returns
returns c =
    rw (c.put_second.ensures, c.second_of-second.ensures)
    (head_within c.args.size c.args.chain c.args.head c.if-size-eq0.false
    c.args.output.now c.args.heads.now c.requires.0 c.requires.1 c.requires.2)
