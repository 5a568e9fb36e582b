-- `table::check::later_shape` meets its contract: each arm's codes are a run of the list of shapes. Assumes nothing.
use native.Mathlib.Omega.{arith}
use mathlib.Core.Path.{refl, ◌∙◌}
use Rattle.table.specs.Operands.{shapes}
use Rattle.table.proofs.Shapes.{in_run}
use Rattle.table.proofs.check.later_shape.Goals as goal

pub returns-then-code-le-COMPLEMENT : goal.returns-then-code-le-COMPLEMENT
unfolding shapes
returns-then-code-le-COMPLEMENT c = c.a_and_cd.ensures ∙ in_run _ 7 8 _ refl (omega arith) (omega arith)

pub returns-then-code-le-RIGHTMOST_ZERO : goal.returns-then-code-le-RIGHTMOST_ZERO
unfolding shapes
returns-then-code-le-RIGHTMOST_ZERO c = c.a_and_c.ensures ∙ in_run _ 15 6 _ refl (omega arith) (omega arith)

pub returns-then-code-le-INPUT : goal.returns-then-code-le-INPUT
unfolding shapes
returns-then-code-le-INPUT c = c.a_and_cd-then-code-le-INPUT.ensures ∙ in_run _ 21 3 _ refl (omega arith) (omega arith)

pub returns-then-code-le-PRINT : goal.returns-then-code-le-PRINT
unfolding shapes
returns-then-code-le-PRINT c = c.unnamed.ensures ∙ in_run _ 24 1 _ refl (omega arith) (omega arith)

pub returns-then-code-le-ZEROS_TO_BLANKS : goal.returns-then-code-le-ZEROS_TO_BLANKS
unfolding shapes
returns-then-code-le-ZEROS_TO_BLANKS c = c.a_and_c-then-code-le-ZEROS_TO_BLANKS.ensures ∙ in_run _ 25 6 _ refl (omega arith) (omega arith)

pub returns-then-code-le-RESTORE : goal.returns-then-code-le-RESTORE
unfolding shapes
returns-then-code-le-RESTORE c = c.unnamed-then-code-le-RESTORE.ensures ∙ in_run _ 31 2 _ refl (omega arith) (omega arith)

pub returns-then-code-le-RESTORE_DEFINITION : goal.returns-then-code-le-RESTORE_DEFINITION
unfolding shapes
returns-then-code-le-RESTORE_DEFINITION c = c.name_and.ensures ∙ in_run _ 33 2 _ refl (omega arith) (omega arith)

pub returns : goal.returns
unfolding shapes
returns c = c.unnamed-2.ensures ∙ in_run _ 35 1 _ refl (omega arith) (omega arith)
