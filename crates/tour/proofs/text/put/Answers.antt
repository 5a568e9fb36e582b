-- `tour::text::put` meets its contract: one byte set is one put before the place (`put_one`). Assumes nothing.
use Rattle.tour.proofs.Putting.{put_one}
use native.Mathlib.Omega.{arith}
use Rattle.tour.proofs.text.put.Goals as goal

pub returns : goal.returns
returns c =
    record {
      result_value = omega arith;
      text_after = put_one c.args.at c.args.character c.args.text.now c.requires.0 c.requires.1;
    }
