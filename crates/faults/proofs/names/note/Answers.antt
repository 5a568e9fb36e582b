-- `faults::names::note` meets its contract: an empty label puts nothing (`put_none`), and another its key and row at place n (`put_one`).
-- Assumes nothing.
use Rattle.faults.proofs.Naming.{put_none, put_one}
use Rattle.faults.proofs.names.note.Goals as goal

pub returns-then-w-eq0 : goal.returns-then-w-eq0
returns-then-w-eq0 c = put_none _ c.args.w.now _ _ c.if-w-eq0.true

pub returns : goal.returns
returns c =
    put_one _ c.args.w.now _ _ c.if-w-eq0.false _ c.key_of.ensures c.requires
