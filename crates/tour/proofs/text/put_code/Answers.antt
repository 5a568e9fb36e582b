-- `tour::text::put_code` meets its contract: three characters, the last first. Assumes nothing.
use mathlib.Core.List.{◌∷◌, []}
use Rattle.tour.proofs.Putting.{start, more}
use Rattle.tour.proofs.text.put_code.Goals as goal

pub returns : goal.returns
returns c =
    let one = more (start c.args.at c.args.text.now c.requires.1) (_ ∷ []) c.put-end.ensures.result_value c.put-end.ensures.text_after in
    let two = more one (_ ∷ []) c.put-low.ensures.result_value c.put-low.ensures.text_after in
    let three = more two (_ ∷ []) c.put.ensures.result_value c.put.ensures.text_after in
    record {
      result_value = three.starts;
      text_after = three.buffer;
    }
