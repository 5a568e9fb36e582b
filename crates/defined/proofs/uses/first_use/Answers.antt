-- `defined::uses::first_use` meets its contract: the lowest use is asked of the final marks, as the definition has it. Assumes nothing.
use mathlib.Core.Path.{ap, ◌∙◌}
use Rattle.defined.specs.Search.{lowest_told, first_use_told}
use Rattle.defined.proofs.uses.first_use.Goals as goal

pub returns : goal.returns
unfolding first_use_told
returns c = c.lowest_use.ensures ∙ ap (lowest_told c.args.table.now.numbers.now) c.marks.ensures
