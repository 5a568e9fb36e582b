-- `defined::walk::walk_chain` meets its contract. The invariant: what is left of the chain gives what the whole gives. Assumes nothing.
use Rattle.defined.proofs.Loops.{accepted, next_inside, go_to_inside, do_inside, name_inside}
use Rattle.defined.proofs.Loops.{first_operation_lem, left_falls, walks_begin, walks_on, walks_end}
use native.Mathlib.Omega.{arith}
use Rattle.defined.specs.Search.{chain_walked}
use Rattle.defined.proofs.walk.walk_chain.Goals as goal

pub row-line-requires : goal.row-line-requires
row-line-requires c = c.requires.high

pub loop-r-init : goal.loop-r-init
loop-r-init c =
    let at-args = c.args in
    let accept = accepted c.args.table.now in
    rw c.row-line.ensures (walks_begin _ at-args.table.now.numbers.now 3 _ _ _ accept
    (first_operation_lem at-args.table.now.numbers.now accept at-args.l c.requires))

pub row-row-requires : goal.row-row-requires
row-row-requires c = (c.loop-r.invariant.place.is_row c.loop-r-test.true).high

pub enter-requires : goal.enter-requires
enter-requires c =
    let at-args = c.args in
    let accept = accepted c.args.table.now in
    rw c.row-row.ensures (do_inside at-args.table.now.numbers.now accept c.loop-r.r (c.loop-r.invariant.place.is_row c.loop-r-test.true))

pub set_past-x-requires : goal.set_past-x-requires
set_past-x-requires c =
    let at-args = c.args in
    let accept = accepted c.args.table.now in
    rw c.row-row.ensures (name_inside at-args.table.now.numbers.now accept c.loop-r.r (c.loop-r.invariant.place.is_row c.loop-r-test.true))

pub loop-r-smaller : goal.loop-r-smaller
loop-r-smaller c =
    let at-args = c.args in
    let accept = accepted c.args.table.now in
    rw c.row-row.ensures (left_falls at-args.table.now.numbers.now accept 3 c.loop-r.r c.loop-r.invariant.place.is_row c.loop-r-test.true)

pub loop-r-preserved : goal.loop-r-preserved
loop-r-preserved c =
    let at-args = c.args in
    let accept = accepted c.args.table.now in
    rw (c.enter.ensures, c.set_past-x.ensures, c.row-row.ensures)
    (walks_on _ at-args.table.now.numbers.now accept 3 _ at-args.start at-args.sets.now c.loop-r.sets c.loop-r.r c.loop-r.x
    c.loop-r-test.true c.loop-r.invariant)

pub leave-requires : goal.leave-requires
leave-requires c =
    let at-args = c.args in
    let accept = accepted c.args.table.now in
    let t = at-args.table.now.numbers.now in
    rw c.row-line.ensures (next_inside t accept 1 at-args.l c.requires, go_to_inside t accept at-args.l c.requires)

pub returns : goal.returns
unfolding chain_walked
returns c =
    let at-args = c.args in
    let accept = accepted c.args.table.now in
    rw (c.leave.ensures, c.row-line.ensures)
    (walks_end _ at-args.table.now.numbers.now accept 3 _ at-args.start at-args.sets.now c.loop-r.sets c.loop-r.r c.loop-r.x (omega arith)
    c.loop-r.invariant)
