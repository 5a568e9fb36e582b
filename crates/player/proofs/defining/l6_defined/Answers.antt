-- `player::defining::l6_defined` meets its contract: by the answer. Assumes nothing.
use Rattle.std.proofs.Common.{Err, ap, sym, ◌∙◌}
use Rattle.word.specs.Told.{number}
use Rattle.defined.specs.Answer.{told_fields}
use Rattle.player.specs.Defined.{after_defined, defined_left}
use Rattle.player.proofs.defining.l6_defined.Goals as goal

pub returns-in_default : goal.returns-in_default
unfolding defined_left after_defined told_fields number
returns-in_default c = rw (sym c.check_fields.ensures.value ∙ c.in_default.is)

pub returns-in-NotDefined : goal.returns-in-NotDefined
unfolding defined_left after_defined told_fields number
returns-in-NotDefined c = rw (sym c.check_fields.ensures.value ∙ c.in-Err.is ∙ ap Err c.in-NotDefined.is)

pub returns-in-NoWidth : goal.returns-in-NoWidth
unfolding defined_left after_defined told_fields number
returns-in-NoWidth c = rw (sym c.check_fields.ensures.value ∙ c.in-Err.is ∙ ap Err c.in-NoWidth.is)

pub returns-in-BadLength : goal.returns-in-BadLength
unfolding defined_left after_defined told_fields number
returns-in-BadLength c = rw (sym c.check_fields.ensures.value ∙ c.in-Err.is ∙ ap Err c.in-BadLength.is)

pub returns-in-IllFormed : goal.returns-in-IllFormed
unfolding defined_left after_defined told_fields number
returns-in-IllFormed c = rw (sym c.check_fields.ensures.value ∙ c.in-Err.is ∙ ap Err c.in-IllFormed.is)

pub returns-in-WrongKind : goal.returns-in-WrongKind
unfolding defined_left after_defined told_fields number
returns-in-WrongKind c = rw (sym c.check_fields.ensures.value ∙ c.in-Err.is ∙ ap Err c.in-WrongKind.is)
