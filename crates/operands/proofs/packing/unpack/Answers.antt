-- `operands::packing::unpack` meets its contract: each part by a remainder and a quotient. Assumes nothing.
use mathlib.Core.Path.{refl}
use Rattle.operands.specs.Packing.{unpacked}
use Rattle.operands.proofs.packing.unpack.Goals as goal

pub returns : goal.returns
unfolding unpacked
returns c = refl
