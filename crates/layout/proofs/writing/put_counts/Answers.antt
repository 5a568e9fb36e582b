-- `layout::writing::put_counts` meets its contract: three numbers of eight bytes, put one after the other, stand in a row (`three_row`).
-- Assumes nothing.
use native.Mathlib.Omega.{arith}
use Rattle.octets.proofs.RoundTrip.{length_bytes}
use Rattle.octets.specs.Octets.{bytes_of}
use Rattle.layout.proofs.Placing.{number_placed, three_row}
use Rattle.layout.proofs.writing.put_counts.Goals as goal

pub returns : goal.returns
returns c =
    let row = three_row 27 8 8 8 (bytes_of 8 c.args.contents) (bytes_of 8 c.args.saved) (bytes_of 8 c.args.calls)
    c.args.bytes.now (length_bytes 8 _) (length_bytes 8 _) (length_bytes 8 _)
    (number_placed 27 8 _ _ c.put_number.ensures) (number_placed 35 8 _ _ c.put_number-2.ensures)
    (number_placed 43 8 _ _ c.put_number-3.ensures) (omega (arith, c.requires)) in
    record {
      bytes_after = row.put.same;
      ranged = (c.ranges.contents.fits, c.ranges.saved.fits, c.ranges.calls.fits);
    }
