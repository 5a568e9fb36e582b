-- `hours::entry_of` meets its contract: number by number. Assumes nothing.
use borrow.Author.Rules.{rules}
use Rattle.hours.specs.Hours.{entry_of}
use Rattle.hours.proofs.entry_of.Goals as goal

pub returns : goal.returns
unfolding entry_of
returns c = search rules
