-- `scripts::read_into` meets its contract. The part lent is as long as asked. Assumes nothing.
use Rattle.std.proofs.Common.{sym, length-take-le, rules}
use Rattle.scripts.proofs.read_into.Goals as goal

pub slice_bounds-read_part-end-2 : goal.slice_bounds-read_part-end-2
slice_bounds-read_part-end-2 c = sym (length-take-le _ _ (search rules))
