-- `tour::text::put_answer` meets its contract: by the answer. Assumes nothing.
use native.Mathlib.Omega.{arith}
use Rattle.tour.specs.Tour.{answer_text}
use Rattle.tour.proofs.Digits.{decimal_few}
use Rattle.tour.proofs.text.put_answer.Goals as goal

pub put_decimal-requires : goal.put_decimal-requires
put_decimal-requires c =
    let few = decimal_few 19 c.refusal_number.result (omega (arith, c.refusal_number.type_inv)) in
    (omega arith, c.requires.1)

pub returns-in-Running : goal.returns-in-Running
unfolding answer_text
returns-in-Running c =
    record {
      answer_value = rw c.in-Running.is c.put_word.ensures.word_value;
      text_after = rw c.in-Running.is c.put_word.ensures.text_after;
      at_bound = omega (arith, c.put_word.ensures.word_value);
    }

pub returns-in-Finished : goal.returns-in-Finished
unfolding answer_text
returns-in-Finished c =
    record {
      answer_value = rw c.in-Finished.is c.put_word-in-Finished.ensures.word_value;
      text_after = rw c.in-Finished.is c.put_word-in-Finished.ensures.text_after;
      at_bound = omega (arith, c.put_word-in-Finished.ensures.word_value);
    }

pub returns-in-Refused : goal.returns-in-Refused
unfolding answer_text
returns-in-Refused c =
    let few = decimal_few 19 c.refusal_number.result (omega (arith, c.refusal_number.type_inv)) in
    let is = c.in-Refused.is in
    record {
      answer_value = rw is (rw c.refusal_number.ensures at c.put_decimal.ensures.n_value);
      text_after = rw is (rw c.refusal_number.ensures at c.put_decimal.ensures.text_after);
      at_bound = omega (arith, c.put_decimal.ensures.n_value);
    }
