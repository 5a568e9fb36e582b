-- `commit::reports::no_store` meets its contract: the answer is the definition's own text. Assumes nothing.
use mathlib.Core.Path.{refl}
use Rattle.machine.specs.Storage.{no_store_of}
use Rattle.commit.proofs.reports.no_store.Goals as goal

pub returns : goal.returns
unfolding no_store_of
returns c = refl
