-- `layout::record::DefinitionRecord::read` meets its contract: four bytes one after the other are those of the definition's part of the bytes
-- (`definition_read`). Assumes nothing.
use Rattle.layout.proofs.Told.{definition_read}
use Rattle.layout.proofs.record.DefinitionRecord.read.Goals as goal

pub returns : goal.returns
returns c = definition_read c.args.bytes.now c.args.at c.requires
