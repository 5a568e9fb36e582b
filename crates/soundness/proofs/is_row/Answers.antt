-- `soundness::is_row` meets its contract: its two tests joined are the definition. Assumes nothing.
use borrow.Author.Rules.{rules}
use Rattle.machine.specs.Sound.{is_row}
use Rattle.soundness.proofs.is_row.Goals as goal

pub returns : goal.returns
unfolding is_row
returns c = search rules
