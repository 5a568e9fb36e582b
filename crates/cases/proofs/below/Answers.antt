-- `cases::below` meets its contract. A remainder is below its divisor. Assumes nothing.
use Rattle.std.proofs.Common.{mod-lt}
use Rattle.cases.proofs.below.Goals as goal

pub returns : goal.returns
returns c = mod-lt _ c.requires
