-- `player::rehearsing::tell` meets its contract: by the answer. Assumes nothing.
use Rattle.std.proofs.Common.{rules}
use Rattle.word.specs.Told.{number}
use Rattle.silence.specs.Silence.{told_listed}
use Rattle.player.specs.Silence.{counted_as}
use Rattle.player.proofs.Telling.{counted_is}
use Rattle.player.proofs.rehearsing.tell.Goals as goal

pub returns-in-Ok : goal.returns-in-Ok
unfolding counted_as told_listed number
returns-in-Ok c =
    let count = counted_is c.args.told c.args.count.now c.map_or.result _ c.map_or.ensures (λ x is. search rules) in
    rw (count, c.in-Ok.is)

pub returns-in-Err : goal.returns-in-Err
unfolding counted_as told_listed number
returns-in-Err c =
    let count = counted_is c.args.told c.args.count.now c.map_or.result _ c.map_or.ensures (λ x is. search rules) in
    rw (count, c.in-Err.is)
