-- `columns::group_at` meets its contract. The loop's invariant: i words are read. Assumes nothing.
use mathlib.Core.Path.{refl, sym, ◌∙◌}
use native.Mathlib.Omega.{arith}
use Rattle.word.proofs.Filling.{fills_none, whole_next, whole_all}
use Rattle.columns.proofs.Loops.{length_group, group_at, starts_inside}
use Rattle.columns.proofs.group_at.Goals as goal

pub loop-i-init : goal.loop-i-init
loop-i-init c = fills_none (length_group c.args.words.now c.args.at c.requires) (omega arith)

pub word_or_zero-requires : goal.word_or_zero-requires
word_or_zero-requires c =
    starts_inside c.args.words.now c.args.at c.requires

pub loop-i-preserved : goal.loop-i-preserved
loop-i-preserved c =
    let a = c.args in
    let l = c.loop-i in
    let more = c.loop-i-test.true in
    whole_next l.invariant more 0 (c.word_or_zero.ensures ∙ sym (group_at a.words.now a.at c.requires l.i more))

pub returns : goal.returns
returns c = whole_all c.loop-i.invariant c.loop-i-test.false refl
