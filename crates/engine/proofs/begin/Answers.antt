-- `engine::begin` meets its contract: 31, 11, finished, 1, and otherwise the walk goes. Assumes nothing.
use native.Mathlib.Omega.{arith}
use Rattle.word.proofs.Tests.{known_false, known_true}
use Rattle.word.proofs.Width.{width_range}
use Rattle.engine.proofs.First.{any_table, finished_is, unfinished_is, told_no_width, told_unsound, told_finished, told_length, told_running}
use Rattle.engine.proofs.First.{unjudged}
use Rattle.engine.proofs.begin.Goals as goal

pub returns-then-not-is_width : goal.returns-then-not-is_width
returns-then-not-is_width c = unjudged c.stops.ensures (told_no_width _ _ (known_false c.is_width.ensures c.if-not-is_width.true-raw))

pub is_sound-requires : goal.is_sound-requires
is_sound-requires c =
    let range = width_range _ (known_true c.is_width.ensures c.if-not-is_width.false-raw) in
    omega (arith, range.1)

pub returns-then-not-is_sound : goal.returns-then-not-is_sound
returns-then-not-is_sound c =
    unjudged c.stops-then-not-is_sound.ensures (told_unsound _ _ (known_true c.is_width.ensures c.if-not-is_width.false-raw)
    (known_false (any_table _ _ _ _ _ c.is_sound.ensures) c.if-not-is_sound.true-raw))

pub returns-then-place-eq-FINISHED : goal.returns-then-place-eq-FINISHED
returns-then-place-eq-FINISHED c =
    unjudged c.stops-then-place-eq-FINISHED.ensures (told_finished _ _ (known_true c.is_width.ensures c.if-not-is_width.false-raw)
    (known_true (any_table _ _ _ _ _ c.is_sound.ensures) c.if-not-is_sound.false-raw)
    (finished_is _ c.if-place-eq-FINISHED.true))

pub returns-then-not-has_length : goal.returns-then-not-has_length
returns-then-not-has_length c =
    unjudged c.stops-then-not-has_length.ensures (told_length _ _ (known_true c.is_width.ensures c.if-not-is_width.false-raw)
    (known_true (any_table _ _ _ _ _ c.is_sound.ensures) c.if-not-is_sound.false-raw)
    (unfinished_is _ c.if-place-eq-FINISHED.false) (known_false c.has_length.ensures c.if-not-has_length.true-raw))

pub returns : goal.returns
returns c = (
  told_running _ _ (known_true c.is_width.ensures c.if-not-is_width.false-raw)
      (known_true (any_table _ _ _ _ _ c.is_sound.ensures) c.if-not-is_sound.false-raw)
      (unfinished_is _ c.if-place-eq-FINISHED.false) (known_true c.has_length.ensures c.if-not-has_length.false-raw),
  c.judge.ensures,
)
