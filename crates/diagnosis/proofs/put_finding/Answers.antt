-- `diagnosis::put_finding` meets its contract: by what was found. Assumes nothing.
use Rattle.std.proofs.Common.{Err, ap, ◌∙◌}
use Rattle.diagnosis.specs.Diagnosis.{spelled, finding_line}
use Rattle.diagnosis.proofs.put_finding.Goals as goal

pub returns-in_default : goal.returns-in_default
unfolding finding_line spelled
returns-in_default c =
    rw c.in_default.is (let all = c.put_word.ensures in
    record { found_value = all.word_value; text_after = all.text_after })

pub returns-in-NotDefined : goal.returns-in-NotDefined
unfolding finding_line
returns-in-NotDefined c =
    rw (c.in-Err.is ∙ ap Err c.in-NotDefined.is) (let all = c.put_no.ensures in
    record { found_value = all.field_value; text_after = all.text_after })

pub returns-in-NoWidth : goal.returns-in-NoWidth
unfolding finding_line spelled
returns-in-NoWidth c =
    rw (c.in-Err.is ∙ ap Err c.in-NoWidth.is) (let all = c.put_word-in-NoWidth.ensures in
    record { found_value = all.word_value; text_after = all.text_after })

pub returns-in-BadLength : goal.returns-in-BadLength
unfolding finding_line spelled
returns-in-BadLength c =
    rw (c.in-Err.is ∙ ap Err c.in-BadLength.is) (let all = c.put_word-in-BadLength.ensures in
    record { found_value = all.word_value; text_after = all.text_after })

pub returns-in-IllFormed : goal.returns-in-IllFormed
unfolding finding_line spelled
returns-in-IllFormed c =
    rw (c.in-Err.is ∙ ap Err c.in-IllFormed.is) (let all = c.put_row.ensures in
    record { found_value = all.tail_value; text_after = all.text_after })

pub returns-in-WrongKind : goal.returns-in-WrongKind
unfolding finding_line spelled
returns-in-WrongKind c =
    rw (c.in-Err.is ∙ ap Err c.in-WrongKind.is) (let all = c.put_row-in-WrongKind.ensures in
    record { found_value = all.tail_value; text_after = all.text_after })
