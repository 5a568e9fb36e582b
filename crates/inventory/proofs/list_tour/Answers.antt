-- `inventory::list_tour` meets its contract: what is put is the listing of what the run leaves, which is the definition (`puts_as`).
-- Assumes nothing.
use mathlib.Core.Path.{refl, ap}
use Rattle.machine.specs.Step.{RunOutcome}
use Rattle.inventory.specs.Inventory.{listing, printed}
use Rattle.inventory.proofs.Pieces.{puts_as}
use Rattle.inventory.proofs.list_tour.Goals as goal

pub run_tour-ran-requires : goal.run_tour-ran-requires
run_tour-ran-requires c = (refl, refl)

pub returns : goal.returns
unfolding printed
returns c =
    puts_as c.put_listing.ensures (ap (λ (r : RunOutcome). listing r.ran.state r.storage) c.run_tour-ran.ensures)
