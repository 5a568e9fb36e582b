-- `lines::kinds::is_hollerith` meets its contract: its tests joined are the definition. Assumes nothing.
use Rattle.lines.specs.Words.{is_hollerith}
use Rattle.lines.proofs.Library.{no_bytes}
use Rattle.lines.proofs.kinds.is_hollerith.Goals as goal

pub returns : goal.returns
unfolding is_hollerith
returns c = rw (c.is_empty.ensures, no_bytes, c.all_characters.ensures)
