-- `defined::marks::marks` meets its contract. The invariant: what is left of the lines gives what all give. Assumes nothing.
use Rattle.std.proofs.Common.{◌≡◌, cond, refl, sym, ◌∙◌, add-one, arith}
use Rattle.defined.specs.Kinds.{is_kind}
use Rattle.defined.specs.Search.{line_marked_of, final_marks, lines_marked}
use Rattle.defined.proofs.Loops.{each_step, each_over, line_here, picks_first, picks_second}
use Rattle.defined.proofs.marks.marks.Goals as goal
use Rattle.defined.proofs.marks.marks.Goals.{then-is_line, else-is_line}

pub mark_line-requires : goal.mark_line-requires
mark_line-requires c = line_here c.args.table.now.numbers.now c.loop-l.l c.loop-l.invariant.0 (omega arith) (sym c.is_line.ensures ∙ c.if-is_line.true)

pub loop-l-preserved : goal.loop-l-preserved
loop-l-preserved c =
    let table = c.args.table.now.numbers.now in
    let l = c.loop-l.l in
    let s = c.loop-l.marks in
    let next : c.if-is_line.marks ≡ cond (is_kind table 1 l) (line_marked_of table c.final_sets-sets.result l s) s = elim c.if-is_line.branch [
      | then-is_line w ↦ picks_first _ _ _ (sym c.is_line.ensures ∙ w.if-is_line.true) (w.marks-is ∙ w.mark_line.ensures)
      | else-is_line w ↦ picks_second _ _ _ (sym c.is_line.ensures ∙ w.if-is_line.false) w.marks-is
    ] in
    (omega arith, rw add-one (c.loop-l.invariant.1 ∙ each_step _ table l s (omega arith) next))

pub returns : goal.returns
unfolding final_marks lines_marked
returns c =
    each_over _ c.args.table.now.numbers.now c.loop-l.l c.loop-l.marks (omega arith) ∙ sym c.loop-l.invariant.1 ∙ rw c.final_sets-sets.ensures refl
