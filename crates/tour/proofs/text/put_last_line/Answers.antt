-- `tour::text::put_last_line` meets its contract: its parts, the last first. Assumes nothing.
use mathlib.Core.List.{◌∷◌, []}
use native.Mathlib.Omega.{arith}
use Rattle.tour.specs.Tour.{last_line, decimal, answer_text}
use Rattle.tour.proofs.Putting.{start, more}
use Rattle.tour.proofs.Digits.{decimal_few}
use borrow.Author.Rules.{rules}
use Rattle.tour.proofs.text.put_last_line.Goals as goal

pub put_decimal-number-requires : goal.put_decimal-number-requires
put_decimal-number-requires c =
    (omega (arith, decimal_few 19 c.args.count (omega (arith, c.well_formed.1.1.1.0))), search rules)

pub put-between-requires : goal.put-between-requires
put-between-requires c =
    (omega (arith, decimal_few 19 c.args.count (omega (arith, c.well_formed.1.1.1.0))), search rules)

pub put_answer-requires : goal.put_answer-requires
put_answer-requires c =
    (omega (arith, decimal_few 19 c.args.count (omega (arith, c.well_formed.1.1.1.0))), search rules)

pub returns : goal.returns
unfolding last_line
returns c =
    let one = more (start c.args.at c.args.text.now c.requires.1) (_ ∷ []) c.put-end.ensures.result_value c.put-end.ensures.text_after in
    let two = more one (decimal c.args.count) c.put_decimal-number.ensures.n_value c.put_decimal-number.ensures.text_after in
    let three = more two (_ ∷ []) c.put-between.ensures.result_value c.put-between.ensures.text_after in
    let four = more three (answer_text c.args.answer) c.put_answer.ensures.answer_value c.put_answer.ensures.text_after in
    record {
      count_value = four.starts;
      text_after = four.buffer;
      at_bound = omega (arith, decimal_few 19 c.args.count (omega (arith, c.well_formed.1.1.1.0)));
    }
