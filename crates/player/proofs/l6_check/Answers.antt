-- `player::l6_check` meets its contract: by what the check finds. Assumes nothing.
use mathlib.Core.Path.{sym, ◌∙◌}
use Rattle.std.proofs.Common.{arith}
use Rattle.std.proofs.lemmas.Grind.{common_steps}
use Rattle.word.specs.Told.{number}
use Rattle.table.specs.Table.{told_check}
use Rattle.player.specs.Calls.{check_left, after_check}
use Rattle.player.proofs.l6_check.Goals as goal

pub returns-in-Ok : goal.returns-in-Ok
unfolding check_left after_check told_check number
returns-in-Ok c = rw (sym c.check_table.ensures.value ∙ c.in-Ok.is)

pub returns-in-Err-BadLength : goal.returns-in-Err-BadLength
unfolding check_left after_check told_check number
returns-in-Err-BadLength c = rw (sym c.check_table.ensures.value ∙ c.in-Err-BadLength.is) (grind (arith, common_steps))

pub returns-in-Err-NoWidth : goal.returns-in-Err-NoWidth
unfolding check_left after_check told_check number
returns-in-Err-NoWidth c = rw (sym c.check_table.ensures.value ∙ c.in-Err-NoWidth.is) (grind (arith, common_steps))
