-- `keeps_section` checks that the map is as long as its trees and the bytes past them, that the trees have as many blocks as bytes that are
-- not zero, and that the rest is zero. Assumes nothing.
use Rattle.std.proofs.Common.{ℕ, ◌*◌, ◌/◌, ◌≤◌, length, sym, ap, div-add-mod', div-le_self, arith, length-take-le, rules}
use Rattle.block.proofs.Size.{size_pos, top_le, words_le}
use Rattle.buddy.proofs.Count.{count_short, count_keeps}
use Rattle.buddy.proofs.section.keeps_section.Goals as goal

pub size_of-n-requires : goal.size_of-n-requires
size_of-n-requires c = omega (arith, c.top_of-k.ensures, top_le c.args.setup.d)

pub nonzero_div-count : goal.nonzero_div-count
nonzero_div-count c = omega (arith, c.size_of-n.ensures, size_pos c.top_of-k.result)

pub overflow_mul-end : goal.overflow_mul-end
overflow_mul-end c =
    let less = div-add-mod' c.words_of-words.result c.size_of-n.result in
    search rules

pub overflow_add-end : goal.overflow_add-end
overflow_add-end c =
    let less = div-add-mod' c.words_of-words.result c.size_of-n.result in
    let past = c.bytes_past.ensures in
    search rules

pub returns-then-end-bytes_past : goal.returns-then-end-bytes_past
returns-then-end-bytes_past c =
    count_short c.args.setup _ _ _ c.top_of-k.ensures
    c.size_of-n.ensures c.words_of-words.ensures _ (λ z. c.if-end-bytes_past.true (rw c.bytes_past.ensures z))

pub all_blocks-blocks-requires : goal.all_blocks-blocks-requires
all_blocks-blocks-requires c =
    let within : let w = c.words_of-words.result in let n = c.size_of-n.result in
    (w / n * n ≤ length c.args.map.now) × (w / n * n ≤ 65536) =
    let w = c.words_of-words.result in
    let n = c.size_of-n.result in
    (omega arith, omega (arith, div-add-mod' w n, c.words_of-words.ensures, words_le c.args.setup)) in
    let w = c.words_of-words.result in
    let same = ap (λ (x : ℕ). w / c.size_of-n.result * x) c.size_of-n.ensures in (
      omega (arith, c.top_of-k.ensures, top_le c.args.setup.d),
      omega (arith, div-le_self w c.size_of-n.result, c.words_of-words.ensures, words_le c.args.setup),
      omega (arith, within.1),
      omega arith,
    )

pub slice_bounds-marks_of-end : goal.slice_bounds-marks_of-end
slice_bounds-marks_of-end c =
    let within : let w = c.words_of-words.result in let n = c.size_of-n.result in
    (w / n * n ≤ length c.args.map.now) × (w / n * n ≤ 65536) =
    let w = c.words_of-words.result in
    let n = c.size_of-n.result in
    (omega arith, omega (arith, div-add-mod' w n, c.words_of-words.ensures, words_le c.args.setup)) in
    sym (length-take-le _ _ within.0)

pub overflow_add-result : goal.overflow_add-result
overflow_add-result c =
    let within : let w = c.words_of-words.result in let n = c.size_of-n.result in
    (w / n * n ≤ length c.args.map.now) × (w / n * n ≤ 65536) =
    let w = c.words_of-words.result in
    let n = c.size_of-n.result in
    (omega arith, omega (arith, div-add-mod' w n, c.words_of-words.ensures, words_le c.args.setup)) in
    let (there, few) = within in
    let long = length-take-le _ c.args.map.now there in
    omega (arith, c.marks_of.ensures.1)

pub zero_from-requires : goal.zero_from-requires
zero_from-requires c =
    let within : let w = c.words_of-words.result in let n = c.size_of-n.result in
    (w / n * n ≤ length c.args.map.now) × (w / n * n ≤ 65536) =
    let w = c.words_of-words.result in
    let n = c.size_of-n.result in
    (omega arith, omega (arith, div-add-mod' w n, c.words_of-words.ensures, words_le c.args.setup)) in
    within.0

pub returns : goal.returns
returns c =
    rw (c.all_blocks-blocks.ensures, c.marks_of.ensures.0, c.zero_from.ensures)
    (count_keeps c.args.setup _ _ _ c.top_of-k.ensures
    c.size_of-n.ensures c.words_of-words.ensures c.args.map.now (omega (arith, c.bytes_past.ensures)))
