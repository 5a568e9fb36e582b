-- `recordings::put_recordings` meets its contract. The loop's invariant: stops and recordings of the rows passed are put. Assumes nothing.
use mathlib.Core.Path.{ap, ◌∙◌}
use native.Mathlib.Omega.{arith}
use lib.ListN.{length}
use Rattle.recordings.proofs.Putting.{noted_fits, puts_none, puts_length, puts_room, puts_row, puts_number}
use Rattle.recordings.proofs.Putting.{puts_next, puts_all}
use Rattle.recordings.proofs.put_recordings.Goals as goal

pub loop-k-init : goal.loop-k-init
loop-k-init c =
    (omega arith, puts_none _ (noted_fits c.requires.1))

pub first_of-requires : goal.first_of-requires
first_of-requires c =
    rw c.loop-k.invariant.1 (puts_room _ (noted_fits c.requires.1) c.loop-k-test.true)

pub put_row-requires : goal.put_row-requires
put_row-requires c =
    let all = noted_fits c.requires.1 in
    let row = puts_row _ all c.loop-k-test.true c.requires.1 in
    let more = c.loop-k-test.true in
    rw (c.first_of.ensures, c.loop-k.invariant.1) (puts_number _ all more c.requires.0 row, puts_room _ all more)

pub loop-k-preserved : goal.loop-k-preserved
loop-k-preserved c =
    let all = noted_fits c.requires.1 in
    let row = puts_row _ all c.loop-k-test.true c.requires.1 in (
      omega arith,
      rw (c.put_row.ensures, c.first_of.ensures, c.loop-k.invariant.1) (puts_next _ all c.loop-k-test.true row),
    )

pub shape_of-output : goal.shape_of-output
shape_of-output c =
    ap length c.loop-k.invariant.1 ∙ puts_length _ (noted_fits c.requires.1) _ c.loop-k.invariant.0

pub returns : goal.returns
returns c =
    c.loop-k.invariant.1 ∙ puts_all _ (noted_fits c.requires.1) c.loop-k.k (omega arith)
