-- `recordings::places::standing_of` meets its contract: an issue day that is smaller, and one that is not. Assumes nothing.
use borrow.Author.Tests.{le-leb, lt-leb}
use Rattle.recordings.specs.Recordings.{day_of}
use Rattle.recordings.proofs.places.standing_of.Goals as goal

pub number_of-requires : goal.number_of-requires
number_of-requires c = c.requires.1

pub number_of-requires-2 : goal.number_of-requires-2
number_of-requires-2 c = c.requires.0

pub returns-then-number_of : goal.returns-then-number_of
unfolding day_of
returns-then-number_of c =
    rw (lt-leb _ _ (rw (c.number_of.ensures, c.number_of-2.ensures) at c.if-number_of.true))

pub returns : goal.returns
unfolding day_of
returns c =
    rw (le-leb _ _ (rw (c.number_of.ensures, c.number_of-2.ensures) at c.if-number_of.false))
