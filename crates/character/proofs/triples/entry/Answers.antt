-- `character::triples::entry` meets its contract: the definition's three digits are the hundreds, the tens and the ones. Assumes nothing.
use borrow.Author.Rules.{rules}
use Rattle.character.specs.Character.{digits, number, packed, from_binary}
use Rattle.character.proofs.triples.entry.Goals as goal

pub returns : goal.returns
unfolding digits number packed from_binary
returns c = search rules
