-- `part_marks` counts the bytes of a part that are not zero. The loop's invariant: the count is that of the bytes passed, at most one for
-- each. Assumes nothing.
use Rattle.std.proofs.Common.{get_or, refl, ap, ◌∙◌, arith, take_all}
use Rattle.buddy.specs.Marks.{marks}
use Rattle.buddy.proofs.Marks.{marks_next, mark_most}
use Rattle.buddy.proofs.section.part_marks.Goals as goal

pub loop-x-init : goal.loop-x-init
loop-x-init c = (omega arith, unfold marks in refl, omega arith)

pub overflow_add-count : goal.overflow_add-count
overflow_add-count c =
    omega (arith, c.mark-count.ensures, mark_most (get_or c.args.part.now c.loop-x.x-index 0))

pub loop-x-preserved : goal.loop-x-preserved
loop-x-preserved c =
    let part = c.args.part.now in
    let one = mark_most (get_or part c.loop-x.x-index 0) in
    (omega arith, omega (arith, c.mark-count.ensures, marks_next part c.loop-x.x-index (omega arith)), omega (arith, c.mark-count.ensures))

pub returns : goal.returns
returns c = c.loop-x.invariant.1 ∙ ap marks (take_all c.loop-x.x-index c.args.part.now (omega arith))
