-- `operands::locations::bits_of` meets its contract: a number of 65,536 or more stands for the field of these parts (`field_number`).
-- Assumes nothing.
use native.Mathlib.Omega.{arith}
use Rattle.operands.proofs.Numbers.{field_number}
use Rattle.operands.proofs.locations.bits_of.Goals as goal

pub returns : goal.returns
returns c = (field_number _ c.requires, omega arith, omega arith)
