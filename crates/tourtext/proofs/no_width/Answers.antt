-- `tourtext::no_width` meets its contract: the line put is the definition's, byte for byte. Assumes nothing.
use Rattle.lines.specs.Words.{spelled}
use Rattle.tourtext.specs.Translation.{width_line}
use mathlib.Core.Path.{refl}
use Rattle.tourtext.proofs.no_width.Goals as goal

pub returns : goal.returns
unfolding width_line spelled
returns c =
    record {
      bytes_value = (refl, c.put_word-start.ensures.word_value);
      printed_after = c.put_word-start.ensures.text_after;
    }
