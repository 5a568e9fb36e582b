-- `defined::marks::mark_tests` meets its contract. The invariant: what is left of the chain gives what the whole gives. Assumes nothing.
use Rattle.defined.proofs.Loops.{accepted, place_inside, left_falls, walks_begin, walks_on, walks_end}
use native.Mathlib.Omega.{arith}
use Rattle.defined.specs.Search.{tests_marked}
use Rattle.defined.proofs.marks.mark_tests.Goals as goal

pub loop-t-init : goal.loop-t-init
loop-t-init c = walks_begin _ _ 2 _ _ _ (accepted c.args.table.now) c.requires

pub join_at-requires : goal.join_at-requires
join_at-requires c =
    let at-args = c.args in
    let accept = accepted c.args.table.now in
    place_inside at-args.table.now.numbers.now accept 2 c.loop-t.t (c.loop-t.invariant.place.is_row c.loop-t-test.true)

pub row-t-requires : goal.row-t-requires
row-t-requires c = (c.loop-t.invariant.place.is_row c.loop-t-test.true).high

pub loop-t-smaller : goal.loop-t-smaller
loop-t-smaller c =
    let at-args = c.args in
    let accept = accepted c.args.table.now in
    rw c.row-t.ensures (left_falls at-args.table.now.numbers.now accept 2 c.loop-t.t c.loop-t.invariant.place.is_row c.loop-t-test.true)

pub loop-t-preserved : goal.loop-t-preserved
loop-t-preserved c =
    let at-args = c.args in
    let accept = accepted c.args.table.now in
    rw (c.join_at.ensures, c.row-t.ensures)
    (walks_on _ at-args.table.now.numbers.now accept 2 _ at-args.x at-args.marks.now c.loop-t.marks c.loop-t.t at-args.x
    c.loop-t-test.true c.loop-t.invariant)

pub returns : goal.returns
unfolding tests_marked
returns c =
    let at-args = c.args in
    let accept = accepted c.args.table.now in
    walks_end _ at-args.table.now.numbers.now accept 2 _ at-args.x at-args.marks.now c.loop-t.marks c.loop-t.t at-args.x (omega arith) c.loop-t.invariant
