-- `typed::read` meets its contract: 31, and then the reading. Assumes nothing.
use Rattle.word.proofs.Tests.{known_true, known_false}
use Rattle.word.proofs.Width.{width_range}
use Rattle.typed.proofs.Answers.{no_width_reading, numbers}
use Rattle.typed.proofs.read.Goals as goal

pub returns-then-not-is_width : goal.returns-then-not-is_width
returns-then-not-is_width c =
    let all = no_width_reading _ _ _ (known_false c.is_width.ensures c.if-not-is_width.true-raw) in
    record { table_after = all.0; numbered = all.1 }

pub read_at-requires : goal.read_at-requires
read_at-requires c = (width_range _ (known_true c.is_width.ensures c.if-not-is_width.false-raw)).1

pub returns : goal.returns
returns c =
    let all = numbers _ _ _ (known_true c.is_width.ensures c.if-not-is_width.false-raw) c.read_at.ensures.0 c.read_at.ensures.1 in
    record { table_after = all.0; numbered = all.1 }
