-- `starts_block` tests the tag, the place and the low half, in this order. Assumes nothing.
use Rattle.std.proofs.Common.{◌-◌, ◌/◌, not, get_or, sym, ap, ◌∙◌, arith}
use Rattle.block.specs.Map.{live_tag_of}
use Rattle.buddy.specs.Marks.{tag_level}
use Rattle.block.proofs.Size.{size_pos}
use Rattle.buddy.proofs.Adding.{zero_stops, above_stops, off_stops, starts_else}
use Rattle.buddy.proofs.tree.starts_block.Goals as goal

pub returns-then-tag-eq0 : goal.returns-then-tag-eq0
returns-then-tag-eq0 c =
    sym (zero_stops c.args.k c.args.bytes.now c.args.i c.if-tag-eq0.true)

pub returns-then-live_tag-tag : goal.returns-then-live_tag-tag
returns-then-live_tag-tag c =
    sym (above_stops c.args.k c.args.bytes.now c.args.i (omega (arith, c.if-live_tag-tag.true, c.live_tag.ensures)))

pub size_of-n-requires : goal.size_of-n-requires
unfolding live_tag_of
size_of-n-requires c = omega (arith, c.if-live_tag-tag.false, c.live_tag.ensures)

pub nonzero_rem-i : goal.nonzero_rem-i
nonzero_rem-i c =
    omega (arith, c.size_of-n.ensures, size_pos ((get_or c.args.bytes.now c.args.i 0 - 1) / 2))

pub returns-then-i-n-ne0 : goal.returns-then-i-n-ne0
unfolding tag_level
returns-then-i-n-ne0 c =
    sym (off_stops c.args.k c.args.bytes.now c.args.i c.size_of-n.result c.size_of-n.ensures c.if-i-n-ne0.true)

pub is_rest-requires : goal.is_rest-requires
is_rest-requires c =
    (omega (arith, c.size_of-n.ensures, size_pos ((get_or c.args.bytes.now c.args.i 0 - 1) / 2)), omega arith)

pub returns : goal.returns
unfolding tag_level
returns c =
    ap not c.is_rest.ensures ∙ sym (starts_else c.args.k c.args.bytes.now c.args.i c.size_of-n.result
    c.size_of-n.ensures c.if-tag-eq0.false (omega (arith, c.if-live_tag-tag.false, c.live_tag.ensures)) c.if-i-n-ne0.false)

pub bounds-bytes-i : goal.bounds-bytes-i
bounds-bytes-i shared-slice-read-tag = omega arith

pub live_tag-requires : goal.live_tag-requires
live_tag-requires live-tag-requires = omega arith

pub overflow_sub-tag : goal.overflow_sub-tag
overflow_sub-tag sub-size-of = omega arith
