-- `lines::fitting::is_operation` meets its contract: the two calls' answers joined are the definition. Assumes nothing.
use mathlib.Core.Path.{ap₂}
use mathlib.Core.Bool.{◌&&◌}
use Rattle.lines.specs.Forms.{is_operation}
use Rattle.lines.proofs.fitting.is_operation.Goals as goal

pub returns : goal.returns
unfolding is_operation
returns c = ap₂ ◌&&◌ c.all_arguments.ensures c.fits_operation.ensures
