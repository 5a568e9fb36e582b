-- `tour::width::width_of_two` meets its contract. Each return is one case of the definition: 36, 48 or neither. Assumes nothing.
use Rattle.tour.specs.Width.{width_of_two}
use Rattle.tour.proofs.width.width_of_two.Goals as goal

pub returns-then-x-y : goal.returns-then-x-y
unfolding width_of_two
returns-then-x-y c = rw c.if-x-y.true

pub returns-then-x-y-2 : goal.returns-then-x-y-2
unfolding width_of_two
returns-then-x-y-2 c = rw (c.if-x-y.false, c.if-x-y-2.true)

pub returns : goal.returns
unfolding width_of_two
returns c = rw (c.if-x-y.false, c.if-x-y-2.false)
