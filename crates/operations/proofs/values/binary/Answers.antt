-- `operations::values::binary` meets its contract: what the conversion tells is told of the operation. Assumes nothing.
use Rattle.operations.proofs.Made.{digits}
use Rattle.operations.proofs.values.binary.Goals as goal

pub returns : goal.returns
returns c = rw c.ok_or.ensures.value (digits _ _ c.to_binary.ensures)
