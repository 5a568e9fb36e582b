-- `tour::text::put_lines` meets its contract: the last line, then the codes before it. Assumes nothing.
use native.Mathlib.Omega.{arith}
use lib.ListN.{length}
use Rattle.tour.specs.Tour.{lines, codes_line}
use Rattle.tour.proofs.Putting.{Put, more}
use borrow.Author.Rules.{rules}
use Rattle.tour.proofs.text.put_lines.Goals as goal

pub put_codes_line-requires : goal.put_codes_line-requires
put_codes_line-requires c = (omega arith, search rules)

pub returns : goal.returns
unfolding lines
returns c =
    let last : Put (length c.args.text.now) _ _ _ _ =
    record { starts = c.put_last_line-last.ensures.count_value; buffer = c.put_last_line-last.ensures.text_after; inside = omega arith } in
    let both = more last (codes_line c.args.codes.now) c.put_codes_line.ensures.codes_value
    c.put_codes_line.ensures.text_after in
    record {
      count_value = both.starts;
      text_after = both.buffer;
    }
