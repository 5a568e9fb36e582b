-- `table::references::name_before` meets its contract: the digit there less 1. Assumes nothing.
use native.Mathlib.Omega.{arith}
use mathlib.Core.Path.{refl}
use Rattle.table.specs.Reference.{name_at}
use Rattle.table.proofs.FromLeft.{few_bits, later_digit}
use Rattle.table.proofs.references.name_before.Goals as goal

pub overflow_shr-result : goal.overflow_shr-result
overflow_shr-result c = omega (arith, few_bits _ c.requires.0 c.requires.1.first, c.requires.1.later)

pub overflow_sub-result : goal.overflow_sub-result
overflow_sub-result c = (later_digit _ c.requires.0 c.requires.1).0

pub overflow_cast-result : goal.overflow_cast-result
overflow_cast-result c = omega (arith, later_digit _ c.requires.0 c.requires.1)

pub returns : goal.returns
unfolding name_at
returns c = (refl, omega (arith, later_digit _ c.requires.0 c.requires.1))
