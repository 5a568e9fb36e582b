-- `table::check::check_table` meets its contract: 31, 1, and then the lowest ill-formed row. Assumes nothing.
use borrow.Author.Tests.{not-true, not-false}
use Rattle.word.proofs.Tests.{known_true, known_false}
use Rattle.table.proofs.Formed.{checked_rows, checked_length, check_no_width, check_at_width, check_numbers}
use Rattle.table.proofs.check.check_table.Goals as goal

pub returns-then-not-is_width : goal.returns-then-not-is_width
returns-then-not-is_width c =
    let all = check_numbers _ _ (check_no_width _ _ (known_false c.is_width.ensures c.if-not-is_width.true-raw)) in
    record { value = all.0; numbered = all.1 }

pub returns-then-not-has_length : goal.returns-then-not-has_length
returns-then-not-has_length c =
    let at-if1 = c.before.before in
    let all = check_numbers _ _ (check_at_width _ _ (known_true at-if1.is_width.ensures at-if1.if-not-is_width.false-raw)
    (checked_length _ _ c.has_length.ensures (not-true _ c.if-not-has_length.true-raw))) in
    record { value = all.0; numbered = all.1 }

pub returns : goal.returns
returns c =
    let at-has-length = c.before.before in
    let all = check_numbers _ _ (check_at_width _ _ (known_true at-has-length.is_width.ensures at-has-length.if-not-is_width.false-raw)
    (checked_rows _ _ at-has-length.has_length.ensures (not-false _ c.if-not-has_length.false-raw) c.lowest_ill_formed.ensures)) in
    record { value = all.0; numbered = all.1 }
