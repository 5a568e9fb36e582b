-- `player::opening::l6_hours` meets its contract: by the answer. Assumes nothing.
use Rattle.word.specs.Told.{number}
use Rattle.hours.specs.Hours.{told_opening}
use Rattle.player.specs.Hours.{after_hours, hours_left}
use Rattle.player.proofs.opening.l6_hours.Goals as goal

pub returns-in-Ok-Some : goal.returns-in-Ok-Some
unfolding hours_left after_hours told_opening number
returns-in-Ok-Some c = rw (← c.open_at.ensures.value, c.in-Ok-Some.is, c.in-Ok-Some.field-0-is)

pub returns-in-Ok-None : goal.returns-in-Ok-None
unfolding hours_left after_hours
returns-in-Ok-None c = rw (← c.open_at.ensures.value, c.in-Ok-None.is, c.in-Ok-None.field-0-is)

pub returns-in-Err : goal.returns-in-Err
unfolding hours_left after_hours told_opening number
returns-in-Err c = rw (← c.open_at.ensures.value, c.in-Err.is)
