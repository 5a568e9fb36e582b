-- `engine::walks::no_report` meets its contract: the report built is the definition's own text. Assumes nothing.
use mathlib.Core.Path.{refl}
use Rattle.machine.specs.Storage.{no_store_of, no_report}
use Rattle.engine.proofs.walks.no_report.Goals as goal

pub returns : goal.returns
unfolding no_store_of no_report
returns c = refl
