-- `layout::writing::put_streams` meets its contract: the place and two numbers, put one after the other, stand in a row (`three_row`).
-- Assumes nothing.
use native.Mathlib.Omega.{arith}
use Rattle.octets.proofs.RoundTrip.{length_bytes}
use Rattle.layout.specs.Layout.{bytes_of_place}
use Rattle.layout.specs.Lengths.{length_place}
use Rattle.octets.specs.Octets.{bytes_of}
use Rattle.layout.proofs.Placing.{number_placed, three_row}
use Rattle.layout.proofs.writing.put_streams.Goals as goal

pub returns : goal.returns
returns c =
    let row = three_row 0 5 8 8 (bytes_of_place c.args.place) (bytes_of 8 c.args.taken) (bytes_of 8 c.args.written)
    c.args.bytes.now (length_place _) (length_bytes 8 _) (length_bytes 8 _)
    c.put.ensures.bytes_after (number_placed 5 8 _ _ c.put_number.ensures)
    (number_placed 13 8 _ _ c.put_number-2.ensures) (omega (arith, c.requires)) in
    record {
      bytes_after = row.put.same;
      ranged = (c.put.ensures.ranged, c.ranges.taken.fits, c.ranges.written.fits);
    }
