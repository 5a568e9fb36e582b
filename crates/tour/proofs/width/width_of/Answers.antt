-- `tour::width::width_of` meets its contract: by the word's length. Assumes nothing.
use borrow.Author.Tests.{eq-eqb, ne_eqb}
use Rattle.tour.specs.Width.{width_of}
use Rattle.tour.proofs.width.width_of.Goals as goal

pub returns-then-word-eq0 : goal.returns-then-word-eq0
unfolding width_of
returns-then-word-eq0 c = rw (eq-eqb _ 0 c.if-word-eq0.true)

pub returns-then-word-ne2 : goal.returns-then-word-ne2
unfolding width_of
returns-then-word-ne2 c = rw (ne_eqb _ 0 c.if-word-eq0.false, ne_eqb _ 2 c.if-word-ne2.true)

pub returns : goal.returns
unfolding width_of
returns c =
    rw (ne_eqb _ 0 c.if-word-eq0.false, eq-eqb _ 2 c.if-word-ne2.false) c.width_of_two.ensures
