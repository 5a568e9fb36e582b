-- `layout::record::PlaceRecord::put` meets its contract: three numbers, put one after the other, stand in a row (`three_row`). Assumes nothing.
use Rattle.octets.proofs.RoundTrip.{length_bytes}
use Rattle.octets.specs.Octets.{bytes_of}
use Rattle.layout.specs.Layout.{bytes_of_place}
use Rattle.layout.proofs.Placing.{number_placed, three_row}
use Rattle.layout.proofs.record.PlaceRecord.put.Goals as goal

pub returns-clause-bytes_after : goal.returns-clause-bytes_after
unfolding bytes_of_place
returns-clause-bytes_after c =
    let p = c.args.self in
    let at = c.args.at in
    let row = three_row at 1 2 2 (bytes_of 1 p.kind) (bytes_of 2 p.row) (bytes_of 2 p.line) c.args.bytes.now (length_bytes 1 _)
    (length_bytes 2 _) (length_bytes 2 _)
    (number_placed at 1 _ _ c.put_number.ensures) (number_placed _ 2 _ _ c.put_number-2.ensures)
    (number_placed _ 2 _ _ c.put_number-3.ensures) c.requires in
    row.put.same
