-- `operands::locations::width_of` meets its contract: a bug has the word's bits (`bug_width`), and a field those of its width
-- (`field_width`). Assumes nothing.
use mathlib.Core.Path.{◌∙◌}
use Rattle.operands.proofs.Numbers.{bug_number}
use Rattle.operands.proofs.Operands.{bug_width, field_width}
use Rattle.operands.proofs.locations.width_of.Goals as goal

pub returns-then-at-lt-FIELDS : goal.returns-then-at-lt-FIELDS
returns-then-at-lt-FIELDS c = bug_width (bug_number _ c.if-at-lt-FIELDS.true)

pub width-requires : goal.width-requires
width-requires c = c.bits_of-bits.ensures.2

pub returns : goal.returns
returns c = c.width.ensures ∙ field_width _ c.bits_of-bits.ensures.0
