-- `recordings::places::clear` meets its contract. The loop's invariant: the second numbers of the pairs passed are zero. Assumes nothing.
use Prim.Native.Nat.{◌+◌, ◌*◌, ◌≤◌}
use native.Mathlib.Omega.{arith}
use lib.ListN.{length}
use Rattle.recordings.proofs.Pushing.{kept_none, kept_twice, second_kept, zeros_more}
use Rattle.recordings.proofs.places.clear.Goals as goal

pub loop-k-init : goal.loop-k-init
loop-k-init c = (omega arith, kept_none _ _, λ j h. absurd (omega arith))

pub put_second-requires : goal.put_second-requires
put_second-requires c =
    omega (arith, c.requires, c.loop-k.invariant.1.same_long, c.loop-k-test.true)

pub loop-k-preserved : goal.loop-k-preserved
loop-k-preserved c =
    let more = c.loop-k-test.true in
    let room : 2 * c.loop-k.k + 2 ≤ length c.loop-k.output = omega (arith, c.requires, c.loop-k.invariant.1.same_long) in
    rw c.put_second.ensures (
      omega arith,
      kept_twice c.loop-k.invariant.1 (second_kept c.loop-k.output c.loop-k.k 0 room _ more),
      zeros_more c.loop-k.output c.loop-k.k room c.loop-k.invariant.2,
    )

pub shape_of-output : goal.shape_of-output
shape_of-output c =
    c.loop-k.invariant.1.same_long

pub returns : goal.returns
returns c =
    record { kept = c.loop-k.invariant.1; zeros = λ j h. c.loop-k.invariant.2 j (omega (arith, c.loop-k-test.false)) }
