-- `table::references::is_name` meets its contract: its tests joined are the definition. Assumes nothing.
use mathlib.Core.Path.{refl}
use Rattle.table.specs.Reference.{names}
use Rattle.table.proofs.references.is_name.Goals as goal

pub returns : goal.returns
unfolding names
returns c = refl
