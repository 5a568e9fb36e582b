-- `player::keep_state` meets its contract: where nothing moved nothing is written (`not_written`), and otherwise the state's bytes, from
-- which it comes back (`written`). Assumes nothing.
use Rattle.word.proofs.Tests.{known_true, known_false}
use Rattle.player.proofs.Moving.{not_written, written}
use Rattle.player.proofs.keep_state.Goals as goal

pub returns-then-not-has_moved : goal.returns-then-not-has_moved
returns-then-not-has_moved c =
    let all = not_written _ _ _ (known_false c.has_moved.ensures c.if-not-has_moved.true-raw) in
    record { bytes_after = all.0; back = all.1 }

pub returns : goal.returns
returns c =
    let all = written _ _ _ (known_true c.has_moved.ensures c.if-not-has_moved.false-raw) c.write_state.ensures.bytes_after
    c.write_state.ensures.back in
    record { bytes_after = all.0; back = all.1 }
