-- `recordings::places::grow` meets its contract: two returns leave all as it is (`kept_none`), and after the third the chains are those
-- that `relink` makes. Assumes nothing.
use mathlib.Core.Path.{refl}
use native.Mathlib.Omega.{arith}
use Rattle.recordings.proofs.Pushing.{kept_none}
use Rattle.recordings.proofs.places.grow.Goals as goal

pub returns-then-count-lt-FIRST : goal.returns-then-count-lt-FIRST
returns-then-count-lt-FIRST c =
    record { kept = kept_none _ _; linked = c.requires.1; same_long = refl }

pub returns-then-count-size : goal.returns-then-count-size
returns-then-count-size c =
    record { kept = kept_none _ _; linked = c.requires.1; same_long = refl }

pub relink-requires : goal.relink-requires
relink-requires c =
    (c.requires.0, c.requires.1.some, omega (arith, c.if-count-lt-FIRST.false))

pub shape_of-output : goal.shape_of-output
shape_of-output c =
    c.relink.ensures.kept.same_long

pub shape_of-heads : goal.shape_of-heads
shape_of-heads c =
    c.relink.ensures.same_long

pub returns : goal.returns
returns c =
    c.relink.ensures
