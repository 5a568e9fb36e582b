-- `soundness::is_definition` meets its contract: its tests joined are the definition. Assumes nothing.
use borrow.Author.Rules.{rules}
use Rattle.machine.specs.Sound.{is_definition, in_range}
use Rattle.soundness.proofs.is_definition.Goals as goal

pub returns : goal.returns
unfolding is_definition in_range
returns c = search rules
