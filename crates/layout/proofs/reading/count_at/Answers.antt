-- `layout::reading::count_at` meets its contract: the number that `number_at` reads is the definition's. Assumes nothing.
use Rattle.layout.specs.Records.{number_at}
use Rattle.layout.proofs.reading.count_at.Goals as goal

pub returns : goal.returns
unfolding number_at
returns c = c.number_at.ensures
