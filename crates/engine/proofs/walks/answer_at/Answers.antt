-- `engine::walks::answer_at` meets its contract. Each branch is one case of the definition: a finished place or another. Assumes nothing.
use borrow.Author.Tests.{eq-eqb, ne_eqb}
use Rattle.machine.specs.State.{is_finished}
use Rattle.engine.proofs.walks.answer_at.Goals as goal

pub returns-then-place-eq-FINISHED : goal.returns-then-place-eq-FINISHED
unfolding is_finished
returns-then-place-eq-FINISHED c = rw (eq-eqb _ 3 c.if-place-eq-FINISHED.true)

pub returns-else-place-eq-FINISHED : goal.returns-else-place-eq-FINISHED
unfolding is_finished
returns-else-place-eq-FINISHED c = rw (ne_eqb _ 3 c.if-place-eq-FINISHED.false)
