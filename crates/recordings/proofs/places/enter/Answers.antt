-- `recordings::places::enter` meets its contract: a new stop, and one that was met before. Assumes nothing.
use native.Mathlib.Omega.{arith}
use Rattle.recordings.proofs.Chain.{number_inside}
use Rattle.recordings.proofs.Entering.{pair_room, row_number, new_room, new_pushes, enters_new, old_inside, enters_old}
use Rattle.recordings.proofs.places.enter.Goals as goal

pub number_of-stop-requires : goal.number_of-stop-requires
number_of-stop-requires c =
    number_inside _ c.requires.0.holds.is_list_lem _ 1 c.requires.0.inside (omega arith)

pub find-k-requires : goal.find-k-requires
find-k-requires c =
    (c.requires.0.holds, c.requires.1)

pub put_pair-requires : goal.put_pair-requires
put_pair-requires c =
    new_room c.requires.0 c.number_of-stop.ensures c.find-k.ensures c.if-k-count.true

pub push-requires : goal.push-requires
push-requires c =
    rw c.put_pair.ensures
    (new_pushes c.requires.0 c.number_of-stop.ensures c.find-k.ensures c.if-k-count.true c.requires.1)

pub overflow_add-result : goal.overflow_add-result
overflow_add-result c =
    let room = new_room c.requires.0 c.number_of-stop.ensures c.find-k.ensures c.if-k-count.true in omega arith

pub shape_of-output-then-k-count : goal.shape_of-output-then-k-count
shape_of-output-then-k-count c =
    let pushed = rw c.put_pair.ensures at c.push.ensures in
    (enters_new c.requires.0 c.number_of-stop.ensures c.find-k.ensures c.if-k-count.true c.requires.1 pushed).noted.same_long

pub shape_of-heads-then-k-count : goal.shape_of-heads-then-k-count
shape_of-heads-then-k-count c =
    c.push.ensures.same_long

pub returns-then-k-count : goal.returns-then-k-count
returns-then-k-count c =
    let pushed = rw c.put_pair.ensures at c.push.ensures in
    enters_new c.requires.0 c.number_of-stop.ensures c.find-k.ensures c.if-k-count.true c.requires.1 pushed

pub first_of-held-requires : goal.first_of-held-requires
first_of-held-requires c =
    pair_room c.requires.0.holds (old_inside c.requires.0 c.number_of-stop.ensures c.find-k.ensures c.if-k-count.false)

pub standing_of-requires : goal.standing_of-requires
standing_of-requires c =
    let inside = old_inside c.requires.0 c.number_of-stop.ensures c.find-k.ensures c.if-k-count.false in (
      rw c.first_of-held.ensures (row_number c.requires.0.holds inside 2 (omega arith)),
      number_inside _ c.requires.0.holds.is_list_lem _ 2 c.requires.0.inside (omega arith),
    )

pub put_first-requires : goal.put_first-requires
put_first-requires c =
    pair_room c.requires.0.holds (old_inside c.requires.0 c.number_of-stop.ensures c.find-k.ensures c.if-k-count.false)

pub returns : goal.returns
returns c =
    rw (c.put_first.ensures, c.standing_of.ensures, c.first_of-held.ensures)
    (enters_old c.requires.0 c.number_of-stop.ensures c.find-k.ensures c.if-k-count.false c.requires.1)
