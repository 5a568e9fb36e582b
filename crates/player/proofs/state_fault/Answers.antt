-- `player::state_fault` meets its contract: by its tests. Assumes nothing.
use mathlib.Core.Path.{sym, ap, ◌∙◌}
use Rattle.word.proofs.Tests.{known_true, known_false}
use Rattle.word.specs.Word.{is_width}
use Rattle.player.proofs.Blocks.{fault_short, fault_width, fault_none}
use Rattle.player.proofs.state_fault.Goals as goal

pub returns-then-state-ne-STATE_BYTES : goal.returns-then-state-ne-STATE_BYTES
returns-then-state-ne-STATE_BYTES c = fault_short _ c.if-state-ne-STATE_BYTES.true

pub returns-then-not-is_width : goal.returns-then-not-is_width
returns-then-not-is_width c =
    fault_width _ c.if-state-ne-STATE_BYTES.false
    (ap is_width (sym c.width_at.ensures) ∙ known_false c.is_width.ensures c.if-not-is_width.true-raw)

pub returns : goal.returns
returns c =
    fault_none _ c.if-state-ne-STATE_BYTES.false
    (ap is_width (sym c.width_at.ensures) ∙ known_true c.is_width.ensures c.if-not-is_width.false-raw)
