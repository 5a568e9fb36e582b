-- `character::print_into` meets its contract. The loop's invariant: the output is what it was, with the first i characters put in.
-- Assumes nothing.
use Rattle.character.proofs.Digits.{length_printed}
use Rattle.word.proofs.Filling.{fills_none, fills_next, fills_all}
use Rattle.character.proofs.print_into.Goals as goal

pub loop-i-init : goal.loop-i-init
loop-i-init c = let a = c.args in fills_none (length_printed a.count a.width a.v) c.requires.1

pub loop-i-preserved : goal.loop-i-preserved
loop-i-preserved c = fills_next c.loop-i.invariant c.loop-i-test.true 0 c.printed_at.ensures

pub returns : goal.returns
returns c = fills_all c.loop-i.invariant c.loop-i-test.false
