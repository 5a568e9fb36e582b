-- `recordings::no_heads` meets its contract: heads that are all zero are heads of no chains (`fresh`). Assumes nothing.
use Rattle.std.proofs.lemmas.List.{length-replicate}
use Rattle.recordings.proofs.Links.{fresh}
use Rattle.recordings.proofs.no_heads.Goals as goal

pub returns : goal.returns
returns g c = (simp length-replicate, fresh _ c.requires)
