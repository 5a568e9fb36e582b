-- `recordings::places::stop_at` meets its contract: the number of the row that `first_of` answers is the definition. Assumes nothing.
use Prim.Native.Nat.{ℕ}
use mathlib.Core.Path.{ap, ◌∙◌}
use Rattle.recordings.specs.Recordings.{number_of, stop_of}
use Rattle.recordings.proofs.places.stop_at.Goals as goal

pub first_of-requires : goal.first_of-requires
first_of-requires c = c.requires.0

pub number_of-requires : goal.number_of-requires
number_of-requires c = rw c.first_of.ensures c.requires.1

pub returns : goal.returns
unfolding stop_of
returns c =
    c.number_of.ensures ∙ ap (λ (row : ℕ). number_of c.args.list.now row 1) c.first_of.ensures
