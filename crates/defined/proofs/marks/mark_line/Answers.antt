-- `defined::marks::mark_line` meets its contract: the calls' answers one after the other are the definition, and an accepted table's rows
-- lie inside it. Assumes nothing.
use Rattle.defined.proofs.Loops.{accepted, place_inside, first_test_lem, first_operation_lem}
use native.Mathlib.Omega.{arith}
use mathlib.Core.Path.{refl, ◌∙◌}
use Rattle.defined.specs.Search.{line_marked_of}
use Rattle.defined.proofs.marks.mark_line.Goals as goal

pub row-line-requires : goal.row-line-requires
row-line-requires c = c.requires.high

pub offset_bounds-sets-l : goal.offset_bounds-sets-l
offset_bounds-sets-l c =
    let t = c.args.table.now in
    let inside = place_inside t.numbers.now (accepted t) 1 c.args.l c.requires in omega arith

pub bounds-sets-l : goal.bounds-sets-l
bounds-sets-l c = let t = c.args.table.now in place_inside t.numbers.now (accepted t) 1 _ c.requires

pub mark_tests-requires : goal.mark_tests-requires
mark_tests-requires c =
    let t = c.args.table.now in rw c.row-line.ensures (first_test_lem t.numbers.now (accepted t) c.args.l c.requires)

pub mark_chain-requires : goal.mark_chain-requires
mark_chain-requires c =
    let t = c.args.table.now in rw c.row-line.ensures (first_operation_lem t.numbers.now (accepted t) c.args.l c.requires)

pub returns : goal.returns
unfolding line_marked_of
returns c =
    c.mark_chain.ensures ∙ rw (c.mark_tests.ensures, c.row-line.ensures) refl
