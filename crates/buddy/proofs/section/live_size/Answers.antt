-- `live_size` looks at one byte of the map. Assumes nothing.
use Rattle.std.proofs.Common.{◌∙◌}
use Rattle.buddy.proofs.Address.{live_start_lem}
use Rattle.buddy.proofs.section.live_size.Goals as goal

pub returns : goal.returns
returns c =
    c.size_at.ensures ∙ live_start_lem _ _ c.requires.0 c.requires.1 c.args.address
