-- `defined::rounds::walk_rests` meets its contract. The invariant: what is left of the lines gives what all give. Assumes nothing.
use Rattle.std.proofs.Common.{◌≡◌, cond, sym, ◌∙◌, add-one, arith}
use Rattle.defined.specs.Kinds.{is_kind}
use Rattle.defined.specs.Search.{chain_walked, rests_walked}
use Rattle.defined.proofs.Loops.{each_step, each_over, line_here, picks_first, picks_second}
use Rattle.defined.proofs.rounds.walk_rests.Goals as goal
use Rattle.defined.proofs.rounds.walk_rests.Goals.{then-is_line, else-is_line}

pub walk_chain-requires : goal.walk_chain-requires
walk_chain-requires c = line_here c.args.table.now.numbers.now c.loop-l.l c.loop-l.invariant.0 (omega arith) (sym c.is_line.ensures ∙ c.if-is_line.true)

pub loop-l-preserved : goal.loop-l-preserved
loop-l-preserved c =
    let table = c.args.table.now.numbers.now in
    let l = c.loop-l.l in
    let s = c.loop-l.sets in
    let next : c.if-is_line.sets ≡ cond (is_kind table 1 l) (chain_walked table l 0 c.args.done s) s = elim c.if-is_line.branch [
      | then-is_line w ↦ picks_first _ _ _ (sym c.is_line.ensures ∙ w.if-is_line.true) (w.sets-is ∙ w.walk_chain.ensures)
      | else-is_line w ↦ picks_second _ _ _ (sym c.is_line.ensures ∙ w.if-is_line.false) w.sets-is
    ] in
    (omega arith, rw add-one (c.loop-l.invariant.1 ∙ each_step _ table l s (omega arith) next))

pub returns : goal.returns
unfolding rests_walked
returns c = each_over _ c.args.table.now.numbers.now c.loop-l.l c.loop-l.sets (omega arith) ∙ sym c.loop-l.invariant.1
