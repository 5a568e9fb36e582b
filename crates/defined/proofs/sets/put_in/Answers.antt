-- `defined::sets::put_in` meets its contract. Each branch is one case of the definition: with a path the "or" with 2^n, and otherwise x as
-- it is. Assumes nothing.
use Rattle.defined.specs.Search.{including}
use mathlib.Core.Path.{sym, ◌∙◌}
use Rattle.defined.proofs.sets.put_in.Goals as goal

pub returns-then-contains : goal.returns-then-contains
unfolding including
returns-then-contains c =
    rw (sym c.contains.ensures ∙ c.if-contains.true) (c.or.ensures ∙ rw c.power.ensures)

pub returns : goal.returns
unfolding including
returns c = rw (sym c.contains.ensures ∙ c.if-contains.false)
