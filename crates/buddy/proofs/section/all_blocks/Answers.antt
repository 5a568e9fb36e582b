-- `all_blocks` passes one tree after the other. The loop's invariant: all trees lie in the map, and those left give what all give. The
-- measure is what is left of the map. Assumes nothing.
use Rattle.std.proofs.Common.{◌≡◌, ℕ, ◌+◌, ◌-◌, ◌*◌, ◌≤◌, length, take, drop, sym, ap, ◌∙◌, arith}
use Rattle.block.specs.Blocks.{size}
use Rattle.block.proofs.Size.{size_pos}
use Rattle.buddy.specs.Marks.{Passing}
use Rattle.buddy.proofs.Halves.{part_length}
use Rattle.buddy.proofs.Parts.{count_small}
use Rattle.buddy.proofs.Passing.{room_left, pass_on, pass_broken, pass_more, pass_end}
use Rattle.buddy.proofs.section.all_blocks.Goals as goal

pub overflow_mul-all : goal.overflow_mul-all
overflow_mul-all c =
    let found : c.args.count * c.size_of-n.result ≡ c.args.count * size c.args.k =
    ap (λ (x : ℕ). c.args.count * x) c.size_of-n.ensures in
    omega (arith, found)

pub whole_trees-whole-requires : goal.whole_trees-whole-requires
whole_trees-whole-requires c =
    let found : c.args.count * c.size_of-n.result ≡ c.args.count * size c.args.k =
    ap (λ (x : ℕ). c.args.count * x) c.size_of-n.ensures in
    (omega arith, omega (arith, found), omega (arith, found), omega arith)

pub loop-whole-init : goal.loop-whole-init
loop-whole-init c =
    let found : c.args.count * c.size_of-n.result ≡ c.args.count * size c.args.k =
    ap (λ (x : ℕ). c.args.count * x) c.size_of-n.ensures in
    let same = found in
    (omega arith, omega arith, c.whole_trees-whole.ensures c.args.count (omega arith))

pub overflow_add-end : goal.overflow_add-end
overflow_add-end c =
    let room : c.loop-whole.whole.at + c.size_of-n.result ≤ length c.args.map.now =
    omega (arith, c.loop-whole.invariant.0, c.size_of-n.ensures, room_left c.loop-whole.invariant.2 c.loop-whole-test.true) in
    omega (arith, room)

pub slice_bounds-count_blocks-end : goal.slice_bounds-count_blocks-end
slice_bounds-count_blocks-end c =
    let room : c.loop-whole.whole.at + c.size_of-n.result ≤ length c.args.map.now =
    omega (arith, c.loop-whole.invariant.0, c.size_of-n.ensures, room_left c.loop-whole.invariant.2 c.loop-whole-test.true) in
    room

pub count_blocks-more-requires : goal.count_blocks-more-requires
count_blocks-more-requires c =
    let room : c.loop-whole.whole.at + c.size_of-n.result ≤ length c.args.map.now =
    omega (arith, c.loop-whole.invariant.0, c.size_of-n.ensures, room_left c.loop-whole.invariant.2 c.loop-whole-test.true) in
    let long = part_length c.loop-whole.whole.at c.size_of-n.result c.args.map.now (room) in
    (omega arith, long ∙ c.size_of-n.ensures)

pub returns-then-more-eq0 : goal.returns-then-more-eq0
returns-then-more-eq0 c =
    sym (pass_broken c.loop-whole.invariant.2 c.size_of-n.result c.count_blocks-more.result c.size_of-n.ensures
    c.loop-whole-test.true c.count_blocks-more.ensures c.if-more-eq0.true)

pub overflow_add-whole : goal.overflow_add-whole
overflow_add-whole c =
    let few : c.count_blocks-more.result ≤ 256 =
    let part = take (c.loop-whole.whole.at + c.size_of-n.result - c.loop-whole.whole.at) (drop c.loop-whole.whole.at c.args.map.now) in
    omega (arith, c.count_blocks-more.ensures, count_small c.args.k part (omega arith)) in
    omega (arith, c.loop-whole.invariant.2.few, few)

pub whole_trees-whole-requires-in-loop-whole : goal.whole_trees-whole-requires-in-loop-whole
whole_trees-whole-requires-in-loop-whole c =
    let few : c.count_blocks-more.result ≤ 256 =
    let part = take (c.loop-whole.whole.at + c.size_of-n.result - c.loop-whole.whole.at) (drop c.loop-whole.whole.at c.args.map.now) in
    omega (arith, c.count_blocks-more.ensures, count_small c.args.k part (omega arith)) in
    (omega arith, c.loop-whole.invariant.0, c.loop-whole.invariant.1, omega (arith, c.loop-whole.invariant.2.few, few))

pub loop-whole-smaller : goal.loop-whole-smaller
loop-whole-smaller c =
    let next : let l = c.before.before.before.before.before in let sized = l.before.before in
    Passing sized.args.k sized.args.map.now (sized.args.count * sized.size_of-n.result) 0 1 (l.loop-whole.whole.at + sized.size_of-n.result)
    (l.loop-whole.whole.count + c.count_blocks-more.result) sized.args.count =
    let few : c.count_blocks-more.result ≤ 256 =
    let part = take (c.loop-whole.whole.at + c.size_of-n.result - c.loop-whole.whole.at) (drop c.loop-whole.whole.at c.args.map.now) in
    omega (arith, c.count_blocks-more.ensures, count_small c.args.k part (omega arith)) in
    pass_on c.loop-whole.invariant.2 c.size_of-n.result c.count_blocks-more.result c.size_of-n.ensures c.loop-whole-test.true
    c.count_blocks-more.ensures c.if-more-eq0.false (few) in
    let p = next in
    let on = (c.whole_trees-whole-in-loop-whole.ensures p.rest p.fills).onward in
    let inside = c.loop-whole-test.true in
    omega (arith, c.size_of-n.ensures, size_pos c.args.k)

pub loop-whole-preserved : goal.loop-whole-preserved
loop-whole-preserved c =
    let next : let l = c.before.before.before.before.before in let sized = l.before.before in
    Passing sized.args.k sized.args.map.now (sized.args.count * sized.size_of-n.result) 0 1 (l.loop-whole.whole.at + sized.size_of-n.result)
    (l.loop-whole.whole.count + c.count_blocks-more.result) sized.args.count =
    let few : c.count_blocks-more.result ≤ 256 =
    let part = take (c.loop-whole.whole.at + c.size_of-n.result - c.loop-whole.whole.at) (drop c.loop-whole.whole.at c.args.map.now) in
    omega (arith, c.count_blocks-more.ensures, count_small c.args.k part (omega arith)) in
    pass_on c.loop-whole.invariant.2 c.size_of-n.result c.count_blocks-more.result c.size_of-n.ensures c.loop-whole-test.true
    c.count_blocks-more.ensures c.if-more-eq0.false (few) in
    let p = next in
    (c.loop-whole.invariant.0, c.loop-whole.invariant.1, pass_more p (c.whole_trees-whole-in-loop-whole.ensures p.rest p.fills))

pub returns : goal.returns
returns c = sym (pass_end c.loop-whole.invariant.2 c.loop-whole-test.false)

pub size_of-n-requires : goal.size_of-n-requires
size_of-n-requires size-of-requires = omega arith

pub slice_bounds-count_blocks-count : goal.slice_bounds-count_blocks-count
slice_bounds-count_blocks-count sub-count-blocks = omega arith

pub slice_bounds-count_blocks-start : goal.slice_bounds-count_blocks-start
slice_bounds-count_blocks-start part-count-blocks-start = omega arith
