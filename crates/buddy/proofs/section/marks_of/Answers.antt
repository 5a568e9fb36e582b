-- `marks_of` counts the bytes that are not zero part by part. The loop's invariant: the count is that of the bytes past all parts and of the
-- parts passed. Assumes nothing.
use Rattle.std.proofs.Common.{◌≡◌, ◌+◌, ◌/◌, length, ap, ◌∙◌, arith}
use Rattle.buddy.specs.Marks.{marks}
use Rattle.buddy.proofs.Marks.{marks_most, chunks_none, chunks_next, chunks_few, chunks_all}
use Rattle.buddy.proofs.section.marks_of.Goals as goal

pub loop-part-init : goal.loop-part-init
loop-part-init c =
    c.part_marks-count.ensures ∙ ap marks c.as_chunks.ensures.back ∙ chunks_none c.args.bytes.now

pub overflow_add-count : goal.overflow_add-count
overflow_add-count c =
    let bytes = c.args.bytes.now in
    let i = c.loop-part.part-index in
    record {
      fits = omega (
        arith,
        c.loop-part.invariant,
        c.part_marks.ensures,
        c.as_chunks.ensures.front_len,
        c.loop-part-test.true,
        chunks_next bytes c.as_chunks.ensures.front i (omega (arith, c.as_chunks.ensures.front_len)),
        chunks_few bytes (i + 1) (omega (arith, c.as_chunks.ensures.front_len)),
      );
    }

pub loop-part-preserved : goal.loop-part-preserved
loop-part-preserved c =
    let bytes = c.args.bytes.now in
    let i = c.loop-part.part-index in
    omega (
      arith,
      c.loop-part.invariant,
      c.part_marks.ensures,
      chunks_next bytes c.as_chunks.ensures.front i (omega (arith, c.as_chunks.ensures.front_len)),
    )

pub returns : goal.returns
returns c =
    let bytes = c.args.bytes.now in
    let all : c.loop-part.part-index ≡ length bytes / 128 =
    omega (arith, c.loop-part.auto.part-index-end, c.loop-part-test.false, c.as_chunks.ensures.front_len) in
    let is : c.loop-part.count ≡ marks bytes = rw all at c.loop-part.invariant ∙ chunks_all bytes in
    (is, omega (arith, is, marks_most bytes))
