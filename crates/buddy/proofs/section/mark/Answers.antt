-- `mark` tells zero from other bytes. Assumes nothing.
use Rattle.std.proofs.Common.{sym}
use Rattle.buddy.specs.Marks.{mark}
use Rattle.buddy.proofs.Marks.{mark_some}
use Rattle.buddy.proofs.section.mark.Goals as goal

pub returns-then-x-eq0 : goal.returns-then-x-eq0
unfolding mark
returns-then-x-eq0 c = rw c.if-x-eq0.true

pub returns-else-x-eq0 : goal.returns-else-x-eq0
returns-else-x-eq0 c = sym (mark_some c.args.x c.if-x-eq0.false)
