-- `table::check::shape_of` meets its contract: each arm's codes are a run of the list of shapes. Assumes nothing.
use native.Mathlib.Omega.{arith}
use mathlib.Core.Path.{refl, ◌∙◌}
use Rattle.table.specs.Operands.{shapes}
use Rattle.table.proofs.Shapes.{in_run}
use Rattle.table.proofs.check.shape_of.Goals as goal

pub returns-then-code-le-SET_UP : goal.returns-then-code-le-SET_UP
unfolding shapes
returns-then-code-le-SET_UP c = c.unnamed.ensures ∙ in_run _ 0 1 _ refl (omega arith) (omega arith)

pub returns-then-code-le-DEFINE : goal.returns-then-code-le-DEFINE
unfolding shapes
returns-then-code-le-DEFINE c = c.name_and.ensures ∙ in_run _ 1 1 _ refl (omega arith) (omega arith)

pub returns-then-code-le-GET : goal.returns-then-code-le-GET
unfolding shapes
returns-then-code-le-GET c = c.unnamed-then-code-le-GET.ensures ∙ in_run _ 2 1 _ refl (omega arith) (omega arith)

pub returns-then-code-le-FREE : goal.returns-then-code-le-FREE
unfolding shapes
returns-then-code-le-FREE c = c.unnamed-then-code-le-FREE.ensures ∙ in_run _ 3 1 _ refl (omega arith) (omega arith)

pub returns-then-code-le-DUPLICATE : goal.returns-then-code-le-DUPLICATE
unfolding shapes
returns-then-code-le-DUPLICATE c = c.a_and_c.ensures ∙ in_run _ 4 1 _ refl (omega arith) (omega arith)

pub returns-then-code-le-COPY : goal.returns-then-code-le-COPY
unfolding shapes
returns-then-code-le-COPY c = c.a_and_cd.ensures ∙ in_run _ 5 1 _ refl (omega arith) (omega arith)

pub returns-then-code-le-INTERCHANGE : goal.returns-then-code-le-INTERCHANGE
unfolding shapes
returns-then-code-le-INTERCHANGE c = c.a_and_c-then-code-le-INTERCHANGE.ensures ∙ in_run _ 6 1 _ refl (omega arith) (omega arith)
