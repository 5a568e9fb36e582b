-- `typed::writing::put_numbers` meets its contract: the ten numbers of a row are a list of ten. Assumes nothing.
use borrow.Author.Rules.{rules}
use Rattle.lines.specs.Program.{numbers_of}
use Rattle.typed.proofs.writing.put_numbers.Goals as goal

pub returns : goal.returns
unfolding numbers_of
returns c = search rules
