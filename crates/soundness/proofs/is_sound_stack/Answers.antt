-- `soundness::is_sound_stack` meets its contract: an empty stack passes, and the part lent of another has the entries used. Assumes nothing.
use mathlib.Core.Path.{refl, ◌∙◌}
use borrow.Author.Tests.{lt-leb}
use Rattle.std.proofs.lemmas.Fn.{says_at}
use Rattle.machine.proofs.Every.{stack_over, stack_used}
use Rattle.soundness.proofs.Passed.{stack_none}
use Rattle.soundness.proofs.is_sound_stack.Goals.{then-stack-le-STACK, else-stack-le-STACK}
use Rattle.soundness.proofs.is_sound_stack.Goals as goal

pub returns-then-stack-eq0 : goal.returns-then-stack-eq0
returns-then-stack-eq0 g c = λ f h. stack_none f _ _ c.if-stack-eq0.true

pub returns : goal.returns
returns g c = λ f h. elim c.if-stack-le-STACK.branch [
  | then-stack-le-STACK w ↦ w.result-is ∙ stack_used f _ _ _ w.if-stack-le-STACK.true (h _ _ (says_at g.F.Fn w.test.ensures refl))
  | else-stack-le-STACK w ↦ w.result-is ∙ lt-leb _ 128 w.if-stack-le-STACK.false ∙ stack_over f _ _ w.if-stack-le-STACK.false
]
