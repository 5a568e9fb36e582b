-- `diagnosis::put_no` meets its contract: its parts, the last first. Assumes nothing.
use native.Mathlib.Omega.{arith}
use mathlib.Core.List.{◌∷◌, []}
use mathlib.Core.Path.{◌≡◌}
use lib.ListN.{length}
use Rattle.tour.specs.Tour.{decimal}
use Rattle.tour.proofs.Putting.{start, more}
use Rattle.tour.proofs.Digits.{decimal_few}
use Rattle.diagnosis.specs.Diagnosis.{spelled, no_line_of}
use borrow.Author.Rules.{rules}
use Rattle.diagnosis.proofs.put_no.Goals as goal

pub put_decimal-number-requires : goal.put_decimal-number-requires
put_decimal-number-requires c =
    let few = decimal_few 19 c.args.row (search rules) in
    (omega (arith, c.put_word-end.ensures.word_value, c.put-name.ensures.result_value, c.put_word-uses.ensures.word_value), search rules)

pub put_word-requires : goal.put_word-requires
put_word-requires c =
    let few = decimal_few 19 c.args.row (search rules) in
    (omega (arith, c.put_word-end.ensures.word_value, c.put-name.ensures.result_value, c.put_word-uses.ensures.word_value, c.put_decimal-number.ensures.n_value), search rules)

pub returns : goal.returns
unfolding no_line_of spelled
returns c =
    let at-args = c.args in
    let room : length at-args.text.now ≡ 128 = search rules in
    let one = more (start 128 at-args.text.now (omega arith)) _ c.put_word-end.ensures.word_value c.put_word-end.ensures.text_after in
    let two = more one (_ ∷ []) c.put-name.ensures.result_value c.put-name.ensures.text_after in
    let three = more two _ c.put_word-uses.ensures.word_value c.put_word-uses.ensures.text_after in
    let four = more three (decimal at-args.row) c.put_decimal-number.ensures.n_value c.put_decimal-number.ensures.text_after in
    let five = more four _ c.put_word.ensures.word_value c.put_word.ensures.text_after in
    rw (← c.field_character.ensures) (record {
      field_value = five.starts;
      text_after = five.buffer;
    })
