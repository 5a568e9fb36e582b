-- `diagnosis::put_row` meets its contract: its parts, the last first. Assumes nothing.
use native.Mathlib.Omega.{arith}
use mathlib.Core.Path.{◌≡◌}
use lib.ListN.{length}
use Rattle.tour.specs.Tour.{decimal}
use Rattle.tour.proofs.Putting.{start, more}
use Rattle.tour.proofs.Digits.{decimal_few}
use Rattle.diagnosis.proofs.Words.{nothing_after}
use borrow.Author.Rules.{rules}
use Rattle.diagnosis.proofs.put_row.Goals as goal

pub put_word-end-requires : goal.put_word-end-requires
put_word-end-requires c = (omega (arith, c.requires), search rules)

pub put_decimal-number-requires : goal.put_decimal-number-requires
put_decimal-number-requires c =
    let few = decimal_few 19 c.args.row (search rules) in
    (omega (arith, c.put_word-end.ensures.word_value), search rules)

pub put_word-requires : goal.put_word-requires
put_word-requires c =
    let at-args = c.args in
    let few = decimal_few 19 at-args.row (search rules) in
    (omega (arith, c.put_word-end.ensures.word_value, c.put_decimal-number.ensures.n_value), search rules)

pub returns : goal.returns
returns c =
    let at-args = c.args in
    let room : length at-args.text.now ≡ 128 = search rules in
    let one = more (start 128 at-args.text.now (omega arith)) at-args.tail.now c.put_word-end.ensures.word_value c.put_word-end.ensures.text_after in
    let two = more one (decimal at-args.row) c.put_decimal-number.ensures.n_value c.put_decimal-number.ensures.text_after in
    let three = more two at-args.head.now c.put_word.ensures.word_value c.put_word.ensures.text_after in
    let all = nothing_after at-args.head.now (decimal at-args.row) at-args.tail.now three in
    record { tail_value = all.0; text_after = all.1 }
