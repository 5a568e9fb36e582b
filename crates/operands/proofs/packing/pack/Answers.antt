-- `operands::packing::pack` meets its contract: four parts of eight bits. Assumes nothing.
use native.Mathlib.Omega.{arith}
use Rattle.operands.proofs.Unpacking.{flag_small, packed_is}
use Rattle.operands.proofs.packing.pack.Goals as goal

pub overflow_add-result : goal.overflow_add-result
overflow_add-result c = record { fits = omega (arith, flag_small c.args.x.defined) }

pub overflow_add-result-2 : goal.overflow_add-result-2
overflow_add-result-2 c = record { fits = omega (arith, flag_small c.args.x.defined) }

pub overflow_add-result-3 : goal.overflow_add-result-3
overflow_add-result-3 c = record { fits = omega (arith, flag_small c.args.x.defined) }

pub returns : goal.returns
returns c = packed_is _ (omega arith) (omega arith) (omega arith)
