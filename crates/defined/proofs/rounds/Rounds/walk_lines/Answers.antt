-- `defined::rounds::Rounds::walk_lines` meets its contract. The invariant: what is left of the lines gives what all give. Assumes nothing.
use Rattle.std.proofs.Common.{◌≡◌, cond, sym, ◌∙◌, add-one, arith}
use Rattle.defined.specs.Kinds.{is_kind}
use Rattle.defined.specs.Search.{changed_walked, lines_walked}
use Rattle.defined.proofs.Loops.{each_step, each_over, line_here, picks_first, picks_second}
use Rattle.defined.proofs.rounds.Rounds.walk_lines.Goals as goal
use Rattle.defined.proofs.rounds.Rounds.walk_lines.Goals.{then-is_line, else-is_line}

pub walk_changed-requires : goal.walk_changed-requires
walk_changed-requires c = line_here c.args.table.now.numbers.now c.loop-l.l c.loop-l.invariant.0 (omega arith) (sym c.is_line.ensures ∙ c.if-is_line.true)

pub loop-l-preserved : goal.loop-l-preserved
loop-l-preserved c =
    let table = c.args.table.now.numbers.now in
    let l = c.loop-l.l in
    let s = c.loop-l.self in
    let next : c.if-is_line.self ≡ cond (is_kind table 1 l) (changed_walked table l s) s = elim c.if-is_line.branch [
      | then-is_line w ↦ picks_first _ _ _ (sym c.is_line.ensures ∙ w.if-is_line.true) (w.self-is ∙ w.walk_changed.ensures)
      | else-is_line w ↦ picks_second _ _ _ (sym c.is_line.ensures ∙ w.if-is_line.false) w.self-is
    ] in
    (omega arith, rw add-one (c.loop-l.invariant.1 ∙ each_step _ table l s (omega arith) next))

pub returns : goal.returns
unfolding lines_walked
returns c = each_over _ c.args.table.now.numbers.now c.loop-l.l c.loop-l.self (omega arith) ∙ sym c.loop-l.invariant.1
