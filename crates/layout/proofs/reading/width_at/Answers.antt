-- `layout::reading::width_at` meets its contract: the byte at the width's place is the state's width (`width_read`). Assumes nothing.
use Rattle.layout.proofs.Told.{width_read}
use Rattle.layout.proofs.reading.width_at.Goals as goal

pub returns : goal.returns
returns c = width_read c.args.bytes.now c.requires
