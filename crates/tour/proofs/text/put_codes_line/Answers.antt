-- `tour::text::put_codes_line` meets its contract: without codes a newline (`line_none`), and otherwise the codes (`line_some`).
-- Assumes nothing.
use Rattle.tour.proofs.Digits.{line_none, line_some}
use Rattle.tour.proofs.text.put_codes_line.Goals as goal

pub returns-then-codes-eq0 : goal.returns-then-codes-eq0
returns-then-codes-eq0 c =
    let one = line_none c.args.codes.now c.if-codes-eq0.true in
    record {
      codes_value = rw one c.put.ensures.result_value;
      text_after = rw one c.put.ensures.text_after;
    }

pub returns : goal.returns
returns c =
    let some = line_some c.args.codes.now c.if-codes-eq0.false in
    record {
      codes_value = rw some c.put_codes.ensures.codes_value;
      text_after = rw some c.put_codes.ensures.text_after;
    }
