-- `openings::lent` meets its contract. The parts lent are as long as asked. Assumes nothing.
use Rattle.std.proofs.Common.{sym, arith, length-take-le}
use Rattle.openings.proofs.lent.Goals as goal

pub slice_bounds-open_at-end : goal.slice_bounds-open_at-end
slice_bounds-open_at-end c = sym (length-take-le _ _ (omega arith))

pub slice_bounds-open_at-end-2 : goal.slice_bounds-open_at-end-2
slice_bounds-open_at-end-2 c = sym (length-take-le _ _ (omega arith))
