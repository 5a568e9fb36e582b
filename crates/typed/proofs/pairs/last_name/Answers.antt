-- `typed::pairs::last_name` meets its contract: the calls' answers put one into the other are what is asked. Assumes nothing.
use mathlib.Core.Path.{ap, ◌∙◌}
use Rattle.lines.specs.Words.{name_number}
use Rattle.typed.proofs.pairs.last_name.Goals as goal

pub returns : goal.returns
returns c = c.name_number.ensures.0 ∙ ap name_number (c.from.ensures ∙ c.last_byte.ensures)
