-- `operands::locations::field_number` meets its contract: the number made of the parts stands for their field (`parts_number`), and is
-- 65,536 or more, by arithmetic. Assumes nothing.
use native.Mathlib.Omega.{arith}
use Rattle.operands.proofs.Numbers.{parts_number}
use Rattle.operands.proofs.locations.field_number.Goals as goal

pub returns : goal.returns
returns c = (parts_number _ _ _ c.requires.0 c.requires.2 c.requires.3, omega arith)
