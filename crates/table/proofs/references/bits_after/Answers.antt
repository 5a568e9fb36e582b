-- `table::references::bits_after` meets its contract: six bits for each digit after the first. Assumes nothing.
use Rattle.table.proofs.FromLeft.{following, leading_63}
use Rattle.table.proofs.references.bits_after.Goals as goal

pub overflow_sub-result : goal.overflow_sub-result
overflow_sub-result c = leading_63 _ c.requires

pub returns : goal.returns
returns c = following _ c.requires
