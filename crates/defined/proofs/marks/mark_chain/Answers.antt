-- `defined::marks::mark_chain` meets its contract. The invariant: what is left of the chain gives what the whole gives. Assumes nothing.
use Rattle.defined.proofs.Loops.{accepted, place_inside, name_inside, left_falls, walks_begin, walks_on}
use Rattle.defined.proofs.Loops.{walks_end}
use native.Mathlib.Omega.{arith}
use Rattle.defined.specs.Search.{chain_marked}
use Rattle.defined.proofs.marks.mark_chain.Goals as goal

pub loop-r-init : goal.loop-r-init
loop-r-init c = walks_begin _ _ 3 _ _ _ (accepted c.args.table.now) c.requires

pub row-row-requires : goal.row-row-requires
row-row-requires c = (c.loop-r.invariant.place.is_row c.loop-r-test.true).high

pub set_past-x-requires : goal.set_past-x-requires
set_past-x-requires c =
    let at-args = c.args in
    let accept = accepted c.args.table.now in
    rw c.row-row.ensures (name_inside at-args.table.now.numbers.now accept c.loop-r.r (c.loop-r.invariant.place.is_row c.loop-r-test.true))

pub join_at-requires : goal.join_at-requires
join_at-requires c =
    let at-args = c.args in
    let accept = accepted c.args.table.now in
    place_inside at-args.table.now.numbers.now accept 3 c.loop-r.r (c.loop-r.invariant.place.is_row c.loop-r-test.true)

pub loop-r-smaller : goal.loop-r-smaller
loop-r-smaller c =
    let at-args = c.args in
    let accept = accepted c.args.table.now in
    rw c.row-row.ensures (left_falls at-args.table.now.numbers.now accept 3 c.loop-r.r c.loop-r.invariant.place.is_row c.loop-r-test.true)

pub loop-r-preserved : goal.loop-r-preserved
loop-r-preserved c =
    let at-args = c.args in
    let accept = accepted c.args.table.now in
    rw (c.join_at.ensures, c.set_past-x.ensures, c.row-row.ensures)
    (walks_on _ at-args.table.now.numbers.now accept 3 _ at-args.start at-args.marks.now c.loop-r.marks c.loop-r.r c.loop-r.x
    c.loop-r-test.true c.loop-r.invariant)

pub returns : goal.returns
unfolding chain_marked
returns c =
    let at-args = c.args in
    let accept = accepted c.args.table.now in
    walks_end _ at-args.table.now.numbers.now accept 3 _ at-args.start at-args.marks.now c.loop-r.marks c.loop-r.r c.loop-r.x
    (omega arith) c.loop-r.invariant
