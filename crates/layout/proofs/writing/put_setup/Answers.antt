-- `layout::writing::put_setup` meets its contract: three numbers of two bytes, put one after the other, stand in a row (`three_row`).
-- Assumes nothing.
use native.Mathlib.Omega.{arith}
use Rattle.octets.proofs.RoundTrip.{length_bytes}
use Rattle.octets.specs.Octets.{bytes_of}
use Rattle.layout.proofs.Placing.{number_placed, three_row}
use borrow.Author.Rules.{rules}
use Rattle.layout.proofs.writing.put_setup.Goals as goal

pub returns : goal.returns
returns c =
    let row = three_row 21 2 2 2 (bytes_of 2 c.args.setup.d) (bytes_of 2 c.args.setup.s1) (bytes_of 2 c.args.setup.s2)
    c.args.bytes.now (length_bytes 2 _) (length_bytes 2 _)
    (length_bytes 2 _) (number_placed 21 2 _ _ c.put_number.ensures) (number_placed 23 2 _ _ c.put_number-2.ensures)
    (number_placed 25 2 _ _ c.put_number-3.ensures)
    (omega (arith, c.requires)) in
    record {
      bytes_after = row.put.same;
      ranged = (search rules, search rules, search rules);
    }
