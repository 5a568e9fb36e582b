-- `typed::read_at` meets its contract: with room for labels, what `read_with` answers is what is asked. Assumes nothing.
use borrow.Author.Rules.{rules}
use Rattle.typed.proofs.read_at.Goals as goal

pub read_with-requires : goal.read_with-requires
read_with-requires c = (c.requires, search rules)

pub returns : goal.returns
returns c = c.read_with.ensures
