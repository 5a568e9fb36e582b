-- `table::references::bug_before` meets its contract: the first digit less 11. Assumes nothing.
use native.Mathlib.Omega.{arith}
use mathlib.Core.Path.{ap}
use Rattle.table.specs.Reference.{Reference}
use Rattle.table.proofs.FromLeft.{few_bits, bug_digit, reference_is}
use Rattle.table.proofs.references.bug_before.Goals as goal

pub overflow_shr-result : goal.overflow_shr-result
overflow_shr-result c = omega (arith, few_bits _ c.requires.0 c.requires.1)

pub overflow_sub-result : goal.overflow_sub-result
overflow_sub-result c = (bug_digit _ c.requires.0 c.requires.1).0

pub returns : goal.returns
returns c = (ap (λ (r : Reference). r.bug) (reference_is _ c.requires.0 c.requires.1), omega (arith, bug_digit _ c.requires.0 c.requires.1))
