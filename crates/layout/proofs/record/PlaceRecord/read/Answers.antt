-- `layout::record::PlaceRecord::read` meets its contract: a byte and two numbers of two bytes are those of the place's part of the bytes
-- (`place_read`). Assumes nothing.
use Rattle.layout.proofs.Told.{place_read}
use Rattle.layout.proofs.record.PlaceRecord.read.Goals as goal

pub returns : goal.returns
returns c = place_read c.args.bytes.now c.args.at c.requires c.short_at.ensures c.short_at-2.ensures
