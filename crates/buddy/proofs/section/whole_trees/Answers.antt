-- `whole_trees` passes trees that are one block each. The loop's invariant: those left give what all gave, and the number grew by one at most
-- for each byte passed. Assumes nothing.
use Rattle.std.proofs.Common.{◌*◌, ◌≤◌, mul-le-mul_left, arith}
use Rattle.block.proofs.Size.{size_pos, size_small}
use Rattle.buddy.proofs.Passing.{pass_none, pass_blocks}
use Rattle.buddy.proofs.section.whole_trees.Goals as goal
use Rattle.buddy.proofs.section.whole_trees.Goals.{Else-more-eq0}

-- as many words as the trees passed have: few, and one at least for each tree
step : (c : Else-more-eq0) → let more = c.whole_here-more.result in let n = c.size_of-n.result in
    (more * n ≤ 16384) × (more ≤ more * n)
step c =
    let more = c.whole_here-more.result in
    let k = c.args.k in
    let few : c.size_of-n.result ≤ 128 = omega (arith, c.size_of-n.ensures, size_small k (omega arith)) in
    let some : 1 ≤ c.size_of-n.result = omega (arith, c.size_of-n.ensures, size_pos k) in
    (omega (arith, mul-le-mul_left more few, c.whole_here-more.ensures.0), omega (arith, mul-le-mul_left more some))

pub loop-i-init : goal.loop-i-init
loop-i-init c = (λ left fills. pass_none fills, omega arith)

pub whole_here-more-requires : goal.whole_here-more-requires
whole_here-more-requires c = (omega arith, omega arith, omega arith)

pub returns-then-more-eq0 : goal.returns-then-more-eq0
returns-then-more-eq0 c = c.loop-i.invariant.0

pub overflow_add-count : goal.overflow_add-count
overflow_add-count c = omega (arith, c.whole_here-more.ensures.0)

pub overflow_mul-i : goal.overflow_mul-i
overflow_mul-i c = omega (arith, (step c).0)

pub overflow_add-i : goal.overflow_add-i
overflow_add-i c = omega (arith, (step c).0)

pub loop-i-smaller : goal.loop-i-smaller
loop-i-smaller c = omega (arith, (step c).1, c.if-more-eq0.false)

pub loop-i-preserved : goal.loop-i-preserved
loop-i-preserved c = (
  λ left fills. pass_blocks c.args.k (c.loop-i.invariant.0 left fills) c.whole_here-more.result c.size_of-n.result
      c.size_of-n.ensures c.whole_here-more.ensures.1,
  omega (arith, (step c).1),
)

pub returns : goal.returns
returns c = c.loop-i.invariant.0
