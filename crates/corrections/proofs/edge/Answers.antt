-- `corrections::edge` meets its contract. The part lent is as long as asked. Assumes nothing.
use Rattle.std.proofs.Common.{sym, arith, length-take-le}
use Rattle.corrections.proofs.edge.Goals as goal

pub slice_bounds-write_into-end : goal.slice_bounds-write_into-end
slice_bounds-write_into-end c = sym (length-take-le _ _ (omega arith))
