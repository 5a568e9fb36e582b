-- `recordings::note_standing` meets its contract. The loop's invariant: the output holds the standing rows of those passed. Assumes nothing.
use Prim.Native.Nat.{◌+◌, ◌<◌}
use native.Mathlib.Omega.{arith}
use lib.ListN.{length}
use Rattle.recordings.specs.Recordings.{next_of, chain}
use Rattle.recordings.proofs.Chain.{number_inside, some_row}
use Rattle.recordings.proofs.Growing.{passing_none, passing_holds, passing_regrown, passing_next, passing_all}
use Rattle.recordings.proofs.Growing.{entering, so_far_most}
use Rattle.recordings.proofs.note_standing.Goals as goal

pub number_of-row-requires : goal.number_of-row-requires
number_of-row-requires c =
    number_inside _ c.requires.0.is_list_lem 0 0 (some_row _ c.requires.0.is_list_lem) (omega arith)

pub loop-i-init : goal.loop-i-init
unfolding next_of
loop-i-init c =
    (rw c.number_of-row.ensures (passing_none _ c.requires.0.is_list_lem c.requires.2), omega arith)

pub grow-size-requires : goal.grow-size-requires
grow-size-requires c =
    (passing_holds _ c.requires.0.is_list_lem c.loop-i.invariant.0, c.loop-i.invariant.0.linked)

pub enter-count-requires : goal.enter-count-requires
enter-count-requires c =
    let more : c.loop-i.i < length (chain c.args.list.now) = omega (arith, c.requires.0.all_steps) in
    let passing = passing_regrown _ c.requires.0.is_list_lem c.loop-i.invariant.0 c.grow-size.ensures in
    entering _ c.requires.0.is_list_lem passing more (omega (arith, so_far_most c.args.list.now (c.loop-i.i + 1), c.requires.1))

pub number_of-row-requires-in-loop-i : goal.number_of-row-requires-in-loop-i
number_of-row-requires-in-loop-i c =
    number_inside _ c.requires.0.is_list_lem _ 0 c.loop-i.invariant.0.at.inside (omega arith)

pub loop-i-preserved : goal.loop-i-preserved
unfolding next_of
loop-i-preserved c =
    let more : c.loop-i.i < length (chain c.args.list.now) = omega (arith, c.requires.0.all_steps) in
    let passing = passing_regrown _ c.requires.0.is_list_lem c.loop-i.invariant.0 c.grow-size.ensures in
    (rw c.number_of-row-in-loop-i.ensures (passing_next _ c.requires.0.is_list_lem passing more c.enter-count.ensures), omega arith)

pub shape_of-output : goal.shape_of-output
shape_of-output c =
    c.loop-i.invariant.0.noted.same_long

pub shape_of-heads : goal.shape_of-heads
shape_of-heads c =
    c.loop-i.invariant.0.same_long

pub returns : goal.returns
returns c =
    passing_all _ c.requires.0.is_list_lem c.loop-i.invariant.0 (omega (arith, c.requires.0.all_steps))
