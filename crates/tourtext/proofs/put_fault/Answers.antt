-- `tourtext::put_fault` meets its contract: its parts, the last first. Assumes nothing.
use native.Mathlib.Omega.{arith}
use mathlib.Core.List.{◌∷◌, []}
use lib.ListN.{length}
use Rattle.tour.specs.Tour.{decimal}
use Rattle.tour.proofs.Putting.{start, more}
use Rattle.tour.proofs.Digits.{decimal_few}
use Rattle.tourtext.specs.Translation.{meaning, fault_line}
use borrow.Author.Rules.{rules}
use Rattle.tourtext.proofs.put_fault.Goals as goal

pub put_meaning-words-requires : goal.put_meaning-words-requires
put_meaning-words-requires c = (omega (arith, c.put-end.ensures.result_value, c.requires), search rules)

pub put-between-requires : goal.put-between-requires
put-between-requires c =
    (omega (arith, c.put-end.ensures.result_value, c.requires, c.put_meaning-words.ensures.at_bound), search rules)

pub put_decimal-refusal-requires : goal.put_decimal-refusal-requires
put_decimal-refusal-requires c = (
  omega (
    arith,
    decimal_few 19 c.args.number (omega (arith, c.well_formed.1.0)),
    c.put-end.ensures.result_value,
    c.requires,
    c.put_meaning-words.ensures.at_bound,
    c.put-between.ensures.result_value,
  ),
  search rules,
)

pub put-before-requires : goal.put-before-requires
put-before-requires c = (
  omega (
    arith,
    decimal_few 19 c.args.number (omega (arith, c.well_formed.1.0)),
    c.put-end.ensures.result_value,
    c.requires,
    c.put_meaning-words.ensures.at_bound,
    c.put-between.ensures.result_value,
    c.put_decimal-refusal.ensures.n_value,
  ),
  search rules,
)

pub put_decimal-requires : goal.put_decimal-requires
put_decimal-requires c = (
  omega (
    arith,
    decimal_few 19 c.args.number (omega (arith, c.well_formed.1.0)),
    decimal_few 19 c.args.line
        (omega (arith, c.well_formed.1.1.0)),
    c.put-end.ensures.result_value,
    c.requires,
    c.put_meaning-words.ensures.at_bound,
    c.put-between.ensures.result_value,
    c.put_decimal-refusal.ensures.n_value,
    c.put-before.ensures.result_value,
  ),
  search rules,
)

pub returns : goal.returns
unfolding fault_line
returns c =
    let one = more (start (length c.args.text.now) c.args.text.now (omega arith)) (_ ∷ []) c.put-end.ensures.result_value
    c.put-end.ensures.text_after in
    let two = more one (meaning c.args.number) c.put_meaning-words.ensures.number_value c.put_meaning-words.ensures.text_after in
    let three = more two (_ ∷ []) c.put-between.ensures.result_value c.put-between.ensures.text_after in
    let four = more three (decimal c.args.number) c.put_decimal-refusal.ensures.n_value c.put_decimal-refusal.ensures.text_after in
    let five = more four (_ ∷ []) c.put-before.ensures.result_value c.put-before.ensures.text_after in
    let six = more five (decimal c.args.line) c.put_decimal.ensures.n_value c.put_decimal.ensures.text_after in
    record {
      line_value = six.starts;
      text_after = six.buffer;
    }
