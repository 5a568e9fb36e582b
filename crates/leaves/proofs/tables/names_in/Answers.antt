-- `leaves::tables::names_in` meets its contract. What names_in requires is the test just made. Assumes nothing.
use mathlib.Core.Path.{sym, ◌∙◌}
use Rattle.leaves.proofs.tables.names_in.Goals as goal

pub names_in-requires : goal.names_in-requires
names_in-requires c = sym c.is_reference.ensures ∙ c.if-is_reference.true
