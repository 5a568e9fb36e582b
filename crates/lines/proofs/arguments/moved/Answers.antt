-- `lines::arguments::moved` meets its contract: two arguments whose first is not DO are written out. Assumes nothing.
use Rattle.lines.specs.Words.{spelled}
use Rattle.lines.specs.Walking.{expanded_by}
use Rattle.lines.proofs.Library.{same_as}
use Rattle.lines.proofs.Parts.{expanded_none, kept_do, expanded_moved}
use Rattle.lines.proofs.arguments.moved.Goals as goal

pub returns-in_err-a : goal.returns-in_err-a
unfolding expanded_by
returns-in_err-a c = rw c.from_residual.ensures (expanded_none _ c.in_err-a.ensures)

pub returns-then-eq : goal.returns-then-eq
unfolding expanded_by spelled
returns-then-eq c = kept_do _ c.in_ok-a.ensures (same_as _ c.eq.ensures c.as_slice.ensures c.if-eq.true)

pub returns : goal.returns
unfolding expanded_by spelled
returns c = expanded_moved _ c.in_ok-a.ensures (same_as _ c.eq.ensures c.as_slice.ensures c.if-eq.false)
