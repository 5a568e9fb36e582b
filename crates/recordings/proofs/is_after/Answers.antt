-- `recordings::is_after` meets its contract: with no last stop or with one. Assumes nothing.
use Rattle.std.proofs.Common.{rules}
use Rattle.recordings.proofs.Stops.{after_is}
use Rattle.recordings.proofs.is_after.Goals as goal

pub returns : goal.returns
returns c = after_is c.args.stop _ _ c.args.last c.is_none_or.ensures (λ x is. search rules)
