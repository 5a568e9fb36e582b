-- `layout::reading::core_at` meets its contract: its parts, each read as the definition has it, make the core (`core_read`).
-- Assumes nothing.
use Rattle.layout.proofs.Told.{core_read}
use Rattle.layout.proofs.reading.core_at.Goals as goal

pub returns : goal.returns
returns c =
    core_read c.args.bytes.now c.records_at.ensures c.records_at-3.ensures c.records_at-2.ensures c.records_at-4.ensures
    c.records_at-5.ensures c.read.ensures c.count_at.ensures c.count_at-2.ensures c.count_at-3.ensures c.setup_at.ensures
    c.count_at-4.ensures c.count_at-5.ensures
