-- `layout::record::U64Record::put` meets its contract: a number of eight bytes. Assumes nothing.
use Rattle.layout.proofs.Placing.{number_placed}
use Rattle.layout.proofs.record.U64Record.put.Goals as goal

pub returns-clause-bytes_after : goal.returns-clause-bytes_after
returns-clause-bytes_after c = number_placed _ 8 _ _ c.put_number.ensures
