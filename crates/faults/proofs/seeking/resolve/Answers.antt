-- `faults::seeking::resolve` meets its contract: what `gather` put fits, and of it `seek` leaves labels that are declared. Assumes nothing.
use mathlib.Core.Path.{◌∙◌}
use Rattle.faults.proofs.seeking.resolve.Goals as goal

pub seek-requires : goal.seek-requires
seek-requires c = (c.requires, c.gather-n.ensures.0)

pub returns : goal.returns
returns c =
    (c.seek.ensures.0, (c.seek.ensures.1.0 ∙ c.gather-n.ensures.1, c.seek.ensures.1.1))
