-- `lines::arguments::is_argument` meets its contract: its tests joined are the definition. Assumes nothing.
use Rattle.lines.specs.Forms.{is_argument}
use Rattle.lines.proofs.Library.{no_bytes}
use Rattle.lines.proofs.arguments.is_argument.Goals as goal

pub returns : goal.returns
unfolding is_argument
returns c = rw (c.is_empty.ensures, no_bytes, c.all_characters.ensures)
