-- `buddy::fresh::free_trees` meets its contract. The loop's invariant: so many trees are written. Assumes nothing.
use Rattle.std.proofs.Common.{◌≡◌, length, refl, ◌∙◌, zero-mul, arith, length-set}
use Rattle.block.specs.Blocks.{size}
use Rattle.block.proofs.Size.{size_pos}
use Rattle.buddy.proofs.FreeTrees.{free_trees, trees_room, trees_next, trees_none, trees_more}
use Rattle.buddy.proofs.fresh.free_trees.Goals as goal

pub loop-done-init : goal.loop-done-init
loop-done-init c =
    (omega arith, refl, omega (arith, zero-mul (size c.args.k)), c.requires.2 ∙ trees_none c.args.k _)

pub bounds-map-i : goal.bounds-map-i
bounds-map-i c =
    let l = c.loop-done in
    omega (
      arith,
      trees_room c.args.k c.loop-done-test.true c.requires.1,
      trees_next c.args.k l.done l.invariant.2 c.size_of-n.ensures,
      size_pos c.args.k,
    )

pub overflow_add-i : goal.overflow_add-i
overflow_add-i c =
    let l = c.loop-done in
    record {
      fits = omega (
        arith,
        trees_room c.args.k c.loop-done-test.true c.requires.1,
        trees_next c.args.k l.done l.invariant.2 c.size_of-n.ensures,
      );
    }

pub loop-done-preserved : goal.loop-done-preserved
loop-done-preserved c =
    let l = c.loop-done in
    let room = trees_room c.args.k c.loop-done-test.true c.requires.1 in (
      omega arith,
      length-set l.map _ _ ∙ l.invariant.1,
      trees_next c.args.k l.done l.invariant.2 c.size_of-n.ensures,
      rw l.invariant.3 (trees_more c.args.k (length c.args.map.now) l.done l.i l.invariant.2 room c.free_tag-tag.ensures),
    )

pub returns : goal.returns
unfolding free_trees
returns c = let l = c.loop-done in
    let all : l.done ≡ c.args.count = omega arith in
    l.invariant.3 ∙ rw all
