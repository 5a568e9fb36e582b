-- `player::correcting::l6_recordings` meets its contract: by the answer. Assumes nothing.
use Rattle.std.proofs.Common.{rules, arith}
use Rattle.std.proofs.lemmas.Grind.{common_steps}
use Rattle.word.specs.Told.{number}
use Rattle.recordings.specs.Recordings.{told_written}
use Rattle.player.specs.Recordings.{after_recordings, recordings_left}
use Rattle.player.proofs.Telling.{counted_is}
use Rattle.player.proofs.correcting.l6_recordings.Goals as goal

pub returns-in-Ok : goal.returns-in-Ok
unfolding recordings_left after_recordings told_written number
returns-in-Ok c =
    let count = counted_is c.write_standing-written.result c.args.count.now c.map_or.result _ c.map_or.ensures (λ x is. search rules) in
    rw (← c.write_standing-written.ensures.output_after, count, c.in-Ok.is)

pub returns-in-Err-BadList : goal.returns-in-Err-BadList
unfolding recordings_left after_recordings told_written number
returns-in-Err-BadList c =
    let count = counted_is c.write_standing-written.result c.args.count.now c.map_or.result _ c.map_or.ensures (λ x is. search rules) in
    rw (← c.write_standing-written.ensures.output_after, count, c.in-Err-BadList.is) (grind (arith, common_steps))

pub returns-in-Err-RowTwice : goal.returns-in-Err-RowTwice
unfolding recordings_left after_recordings told_written number
returns-in-Err-RowTwice c =
    let count = counted_is c.write_standing-written.result c.args.count.now c.map_or.result _ c.map_or.ensures (λ x is. search rules) in
    rw (← c.write_standing-written.ensures.output_after, count, c.in-Err-RowTwice.is) (grind (arith, common_steps))

pub returns-in-Err-OutputShort : goal.returns-in-Err-OutputShort
unfolding recordings_left after_recordings told_written number
returns-in-Err-OutputShort c =
    let count = counted_is c.write_standing-written.result c.args.count.now c.map_or.result _ c.map_or.ensures (λ x is. search rules) in
    rw (← c.write_standing-written.ensures.output_after, count, c.in-Err-OutputShort.is) (grind (arith, common_steps))
