-- `faults::line::entered` meets its contract. Each branch is one case of the definition: the mode THEN or another. Assumes nothing.
use borrow.Author.Tests.{eq-eqb, ne_eqb}
use Rattle.faults.specs.Checking.{entered_walk}
use Rattle.faults.proofs.line.entered.Goals as goal

pub returns-then-mode-eq-THEN : goal.returns-then-mode-eq-THEN
unfolding entered_walk
returns-then-mode-eq-THEN c = rw (eq-eqb _ 0 c.if-mode-eq-THEN.true)

pub returns-else-mode-eq-THEN : goal.returns-else-mode-eq-THEN
unfolding entered_walk
returns-else-mode-eq-THEN c = rw (ne_eqb _ 0 c.if-mode-eq-THEN.false)
