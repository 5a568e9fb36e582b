-- `tour::text::put_decimal` meets its contract: 0 is one digit (`decimal_none`), and another number has its digits (`decimal_some`).
-- Assumes nothing.
use Rattle.tour.proofs.Digits.{decimal_none, decimal_some}
use Rattle.tour.proofs.text.put_decimal.Goals as goal

pub put-requires : goal.put-requires
put-requires c =
    let one = decimal_none c.args.n c.if-n-eq0.true in
    (rw one at c.requires.0, c.requires.1)

pub returns-then-n-eq0 : goal.returns-then-n-eq0
returns-then-n-eq0 c =
    let one = decimal_none c.args.n c.if-n-eq0.true in
    record {
      n_value = rw one c.put.ensures.result_value;
      text_after = rw one c.put.ensures.text_after;
    }

pub put_digits-requires : goal.put_digits-requires
put_digits-requires c =
    (rw (decimal_some c.args.n c.if-n-eq0.false) at c.requires.0, c.requires.1)

pub returns : goal.returns
returns c =
    let some = decimal_some c.args.n c.if-n-eq0.false in
    record {
      n_value = rw some c.put_digits.ensures.n_value;
      text_after = rw some c.put_digits.ensures.text_after;
    }
