-- `whole_here` passes no tree, one, or those of a part of 128 bytes. Assumes nothing.
use Rattle.std.proofs.Common.{div-le_self, arith}
use borrow.Author.Tests.{not-false}
use Rattle.word.proofs.Tests.{known_true}
use Rattle.block.proofs.Size.{size_pos}
use Rattle.buddy.specs.Marks.{WholeTrees}
use Rattle.buddy.proofs.Halves.{part_length}
use Rattle.buddy.proofs.Whole.{whole_none, whole_one, whole_part}
use Rattle.buddy.proofs.section.whole_here.Goals as goal

pub returns-then-not-is_tag : goal.returns-then-not-is_tag
returns-then-not-is_tag c =
    (omega arith, whole_none c.args.k c.args.map.now c.args.end c.args.i)

pub returns-then-k-i : goal.returns-then-k-i
returns-then-k-i c =
    let here : WholeTrees c.args.k c.args.map.now c.args.end c.args.i 1 =
    whole_one c.args.k c.args.map.now c.args.end c.args.i (omega arith)
    (known_true c.is_tag.ensures c.if-not-is_tag.false-raw) in
    (omega arith, here)

pub returns-then-end-i-lt-PART_BYTES : goal.returns-then-end-i-lt-PART_BYTES
returns-then-end-i-lt-PART_BYTES c =
    let here : WholeTrees c.args.k c.args.map.now c.args.end c.args.i 1 =
    whole_one c.args.k c.args.map.now c.args.end c.args.i (omega arith)
    (known_true c.is_tag.ensures c.if-not-is_tag.false-raw) in
    (omega arith, here)

pub whole_part-requires : goal.whole_part-requires
whole_part-requires c =
    (omega arith, part_length c.args.i 128 c.args.map.now (omega arith))

pub returns-then-not-whole_part : goal.returns-then-not-whole_part
returns-then-not-whole_part c =
    let here : WholeTrees c.args.k c.args.map.now c.args.end c.args.i 1 =
    whole_one c.args.k c.args.map.now c.args.end c.args.i (omega arith)
    (known_true c.is_tag.ensures c.if-not-is_tag.false-raw) in
    (omega arith, here)

pub nonzero_div-result : goal.nonzero_div-result
nonzero_div-result c =
    omega (arith, c.size_of.ensures, size_pos c.args.k)

pub returns : goal.returns
returns c = (
  div-le_self 128 c.size_of.result,
  whole_part c.args.k c.args.map.now c.args.end c.args.i c.size_of.result c.size_of.ensures (omega arith)
      (c.whole_part.ensures (not-false _ c.if-not-whole_part.false-raw)),
)

pub bounds-map-i : goal.bounds-map-i
bounds-map-i shared-slice-read-is-tag = omega arith

pub is_tag-requires : goal.is_tag-requires
is_tag-requires is-tag-requires = omega arith

pub overflow_sub-end : goal.overflow_sub-end
overflow_sub-end sub-if3 = omega arith

pub overflow_add-past : goal.overflow_add-past
overflow_add-past add-past = omega arith

pub slice_bounds-whole_part-count : goal.slice_bounds-whole_part-count
slice_bounds-whole_part-count sub-whole-part = omega arith

pub slice_bounds-whole_part-start : goal.slice_bounds-whole_part-start
slice_bounds-whole_part-start part-whole-part-start = omega arith

pub slice_bounds-whole_part-end : goal.slice_bounds-whole_part-end
slice_bounds-whole_part-end part-whole-part-end = omega arith

pub size_of-requires : goal.size_of-requires
size_of-requires size-of-requires = omega arith
