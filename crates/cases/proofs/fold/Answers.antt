-- `cases::fold` meets its contract. Assumes nothing.
use Rattle.cases.specs.Folding.{fold}
use Rattle.cases.proofs.fold.Goals as goal

pub returns : goal.returns
unfolding fold
returns c = c.next.ensures
