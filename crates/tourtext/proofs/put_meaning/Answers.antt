-- `tourtext::put_meaning` meets its contract. Each return is one case of the definition: 23, 24 or another; none of the three texts passes
-- 80 bytes. Assumes nothing.
use native.Mathlib.Omega.{arith}
use borrow.Author.Tests.{eq-eqb, ne_eqb}
use Rattle.lines.specs.Words.{spelled}
use Rattle.tourtext.specs.Translation.{meaning}
use Rattle.tourtext.proofs.put_meaning.Goals as goal

pub returns-then-number-eq-BAD_LINE : goal.returns-then-number-eq-BAD_LINE
unfolding meaning spelled
returns-then-number-eq-BAD_LINE c =
    record {
      number_value = rw (eq-eqb c.args.number 23 c.if-number-eq-BAD_LINE.true) c.put_word.ensures.word_value;
      text_after = rw (eq-eqb c.args.number 23 c.if-number-eq-BAD_LINE.true) c.put_word.ensures.text_after;
      at_bound = omega (arith, c.put_word.ensures.word_value);
    }

pub returns-then-number-eq-BAD_LABEL : goal.returns-then-number-eq-BAD_LABEL
unfolding meaning spelled
returns-then-number-eq-BAD_LABEL c =
    record {
      number_value = rw (ne_eqb c.args.number 23 c.if-number-eq-BAD_LINE.false, eq-eqb c.args.number 24 c.if-number-eq-BAD_LABEL.true) c.put_word-then-number-eq-BAD_LABEL.ensures.word_value;
      text_after = rw (ne_eqb c.args.number 23 c.if-number-eq-BAD_LINE.false, eq-eqb c.args.number 24 c.if-number-eq-BAD_LABEL.true) c.put_word-then-number-eq-BAD_LABEL.ensures.text_after;
      at_bound = omega (arith, c.put_word-then-number-eq-BAD_LABEL.ensures.word_value);
    }

pub returns : goal.returns
unfolding meaning spelled
returns c =
    record {
      number_value = rw (ne_eqb c.args.number 23 c.if-number-eq-BAD_LINE.false, ne_eqb c.args.number 24 c.if-number-eq-BAD_LABEL.false) c.put_word-2.ensures.word_value;
      text_after = rw (ne_eqb c.args.number 23 c.if-number-eq-BAD_LINE.false, ne_eqb c.args.number 24 c.if-number-eq-BAD_LABEL.false) c.put_word-2.ensures.text_after;
      at_bound = omega (arith, c.put_word-2.ensures.word_value);
    }
