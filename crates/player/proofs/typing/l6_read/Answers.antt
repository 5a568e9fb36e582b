-- `player::typing::l6_read` meets its contract: by the answer. Assumes nothing.
use Rattle.word.specs.Told.{number}
use Rattle.lines.specs.Program.{told_read}
use Rattle.player.specs.Typed.{rows_after, line_after, after_reading, read_left}
use Rattle.player.proofs.typing.l6_read.Goals as goal

pub returns-in-Ok : goal.returns-in-Ok
unfolding read_left after_reading rows_after line_after told_read number
returns-in-Ok c = rw (← c.read.ensures.table_after, c.in-Ok.is)

pub returns-in-Err-NoWidth : goal.returns-in-Err-NoWidth
unfolding read_left after_reading rows_after line_after told_read number
returns-in-Err-NoWidth c = rw (← c.read.ensures.table_after, c.in-Err-NoWidth.is, c.in-Err-NoWidth.field-0-is)

pub returns-in-Err-BadLine : goal.returns-in-Err-BadLine
unfolding read_left after_reading rows_after line_after told_read number
returns-in-Err-BadLine c = rw (← c.read.ensures.table_after, c.in-Err-BadLine.is, c.in-Err-BadLine.field-0-is)

pub returns-in-Err-BadLabel : goal.returns-in-Err-BadLabel
unfolding read_left after_reading rows_after line_after told_read number
returns-in-Err-BadLabel c = rw (← c.read.ensures.table_after, c.in-Err-BadLabel.is, c.in-Err-BadLabel.field-0-is)

pub returns-in-Err-TooLong : goal.returns-in-Err-TooLong
unfolding read_left after_reading rows_after line_after told_read number
returns-in-Err-TooLong c = rw (← c.read.ensures.table_after, c.in-Err-TooLong.is, c.in-Err-TooLong.field-0-is)
