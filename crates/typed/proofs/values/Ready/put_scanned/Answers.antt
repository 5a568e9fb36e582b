-- `typed::values::Ready::put_scanned` meets its contract: the line's row, its tests, its operations. Assumes nothing.
use native.Mathlib.Omega.{arith}
use Rattle.typed.proofs.Grouping.{made_is, tests_ready, others_ready, all_is, all_long}
use Rattle.typed.proofs.values.Ready.put_scanned.Goals as goal

pub overflow_add-first : goal.overflow_add-first
overflow_add-first c = omega (arith, c.requires.1)

pub overflow_add-later : goal.overflow_add-later
overflow_add-later c = omega (arith, c.requires.1)

pub slice_bounds-go_to_row-count : goal.slice_bounds-go_to_row-count
slice_bounds-go_to_row-count c = let inside = c.requires.0.placed.go_to in omega arith

pub slice_bounds-go_to_row-start : goal.slice_bounds-go_to_row-start
slice_bounds-go_to_row-start c = let inside = c.requires.0.placed.go_to in omega arith

pub slice_bounds-go_to_row-end : goal.slice_bounds-go_to_row-end
slice_bounds-go_to_row-end c = let inside = c.requires.0.placed.go_to in omega arith

pub put_row-requires : goal.put_row-requires
put_row-requires c = omega (arith, c.requires.1)

pub put_group-requires : goal.put_group-requires
put_group-requires c =
    let made = made_is _ _ _ _ c.requires.0 _ _ c.line_row-made.ensures c.following.ensures c.following-2.ensures
    c.go_to_row-go_to.ensures in
    tests_ready _ _ _ _ c.requires.0 _ _ _ c.requires.1 made c.put_row.ensures

pub put_group-requires-2 : goal.put_group-requires-2
put_group-requires-2 c =
    let made = made_is _ _ _ _ c.requires.0 _ _ c.line_row-made.ensures c.following.ensures c.following-2.ensures
    c.go_to_row-go_to.ensures in
    others_ready _ _ _ _ c.requires.0 _ _ _ c.requires.1 made c.put_row.ensures c.put_group.ensures

pub shape_of-table : goal.shape_of-table
shape_of-table c =
    let made = made_is _ _ _ _ c.requires.0 _ _ c.line_row-made.ensures c.following.ensures c.following-2.ensures
    c.go_to_row-go_to.ensures in
    all_long _ _ _ _ c.requires.0 _ _ _ c.requires.1 made c.put_row.ensures c.put_group.ensures c.put_group-2.ensures

pub returns : goal.returns
returns c =
    let made = made_is _ _ _ _ c.requires.0 _ _ c.line_row-made.ensures c.following.ensures c.following-2.ensures
    c.go_to_row-go_to.ensures in
    all_is _ _ _ _ c.requires.0 _ _ _ c.requires.1 made c.put_row.ensures c.put_group.ensures c.put_group-2.ensures
