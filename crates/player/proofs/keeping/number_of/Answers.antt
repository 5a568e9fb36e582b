-- `player::keeping::number_of` meets its contract: by the answer. Assumes nothing.
use Rattle.std.proofs.Common.{arith}
use Rattle.std.proofs.lemmas.Grind.{common_steps}
use Rattle.word.specs.Told.{number}
use Rattle.columns.specs.Columns.{told_kept}
use Rattle.player.proofs.keeping.number_of.Goals as goal

pub returns-in-Ok : goal.returns-in-Ok
unfolding told_kept number
returns-in-Ok c = rw c.in-Ok.is

pub returns-in-Err-NoWidth : goal.returns-in-Err-NoWidth
unfolding told_kept number
returns-in-Err-NoWidth c = rw c.in-Err-NoWidth.is (grind (arith, common_steps))

pub returns-in-Err-WordTooWide : goal.returns-in-Err-WordTooWide
unfolding told_kept number
returns-in-Err-WordTooWide c = rw c.in-Err-WordTooWide.is (grind (arith, common_steps))

pub returns-in-Err-NotSaved : goal.returns-in-Err-NotSaved
unfolding told_kept number
returns-in-Err-NotSaved c = rw c.in-Err-NotSaved.is (grind (arith, common_steps))

pub returns-in-Err-OutputShort : goal.returns-in-Err-OutputShort
unfolding told_kept number
returns-in-Err-OutputShort c = rw c.in-Err-OutputShort.is (grind (arith, common_steps))
