-- `recordings::places::relink` meets its contract. The loop's invariant: the places passed are linked. Assumes nothing.
use mathlib.Core.Path.{◌∙◌}
use Rattle.recordings.proofs.Pushing.{relinking_none, relinking_pushes, relinking_next, relinking_all, kept_holds}
use Rattle.recordings.proofs.places.relink.Goals as goal

pub clear-requires : goal.clear-requires
clear-requires c =
    c.requires.0.room

pub loop-k-init : goal.loop-k-init
loop-k-init c =
    relinking_none _ _ c.requires.2 c.clear.ensures

pub push-requires : goal.push-requires
push-requires c =
    relinking_pushes c.loop-k.invariant (kept_holds c.clear.ensures.kept c.requires.0) c.requires.1 c.loop-k-test.true

pub loop-k-preserved : goal.loop-k-preserved
loop-k-preserved c =
    relinking_next c.loop-k.invariant c.loop-k-test.true c.push.ensures

pub shape_of-output : goal.shape_of-output
shape_of-output c =
    c.loop-k.invariant.kept.same_long ∙ c.clear.ensures.kept.same_long

pub shape_of-heads : goal.shape_of-heads
shape_of-heads c =
    c.loop-k.invariant.same_long

pub returns : goal.returns
returns c =
    relinking_all c.loop-k.invariant c.clear.ensures.kept c.requires.1 c.loop-k-test.false
