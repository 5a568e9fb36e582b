-- `table::check::has_length` meets its contract: its tests joined are the definition. Assumes nothing.
use mathlib.Core.Path.{refl}
use Rattle.table.specs.Row.{length_fits}
use Rattle.table.proofs.check.has_length.Goals as goal

pub returns : goal.returns
unfolding length_fits
returns c = refl
