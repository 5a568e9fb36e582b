-- `faults::line::in_column` meets its contract. Each branch is one case of the definition: a line without a label or with one, by the
-- blanks at its start. Assumes nothing.
use native.Mathlib.Nat.{zero-add}
use mathlib.Core.Path.{◌∙◌}
use borrow.Author.Tests.{eq-eqb, ne_eqb}
use Rattle.faults.specs.Checking.{column_at}
use Rattle.faults.proofs.line.in_column.Goals as goal

pub returns-then-c : goal.returns-then-c
unfolding column_at
returns-then-c c = rw (eq-eqb _ _ c.if-c.true, c.blanks_end-blanks.ensures ∙ zero-add _)

pub returns : goal.returns
unfolding column_at
returns c = rw (ne_eqb _ _ c.if-c.false, c.blanks_end-blanks.ensures ∙ zero-add _)
