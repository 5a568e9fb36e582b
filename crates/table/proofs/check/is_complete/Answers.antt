-- `table::check::is_complete` meets its contract: its tests joined are the definition. Assumes nothing.
use mathlib.Core.Bool.{◌&&◌}
use mathlib.Core.Path.{ap₂}
use Rattle.table.specs.Table.{complete}
use Rattle.table.proofs.check.is_complete.Goals as goal

pub returns : goal.returns
unfolding complete
returns c =
    ap₂ ◌&&◌ c.has_mode.ensures
    (ap₂ ◌&&◌ c.has_tests.ensures (ap₂ ◌&&◌ c.goes_on.ensures c.rest_unused.ensures))
