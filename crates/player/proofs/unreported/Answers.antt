-- `player::unreported` meets its contract: by the width. Assumes nothing.
use mathlib.Core.Path.{sym, ap, ◌∙◌}
use Rattle.word.proofs.Tests.{known_true, known_false}
use Rattle.word.specs.Word.{is_width}
use Rattle.machine.specs.Answer.{refusal_number}
use Rattle.player.specs.Calls.{code, unreported}
use Rattle.player.proofs.unreported.Goals as goal

pub returns-then-not-is_width : goal.returns-then-not-is_width
unfolding unreported code refusal_number
returns-then-not-is_width c =
    rw (ap is_width (sym c.width_at.ensures) ∙ known_false c.is_width.ensures c.if-not-is_width.true-raw)

pub returns : goal.returns
unfolding unreported
returns c =
    rw (ap is_width (sym c.width_at.ensures) ∙ known_true c.is_width.ensures c.if-not-is_width.false-raw)
