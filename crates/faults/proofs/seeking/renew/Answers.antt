-- `faults::seeking::renew` meets its contract: the labels stay as they are, or are those that `resolve` finds, which are declared.
-- Assumes nothing.
use mathlib.Core.Path.{refl}
use Rattle.faults.proofs.seeking.renew.Goals as goal

pub returns-then-not-is_new : goal.returns-then-not-is_new
returns-then-not-is_new c =
    (c.requires.1.1.1, (refl, λ f. f))

pub resolve-requires : goal.resolve-requires
resolve-requires c = c.requires.0

pub returns : goal.returns
returns c =
    (c.resolve.ensures.0, (c.resolve.ensures.1.0, λ _. c.resolve.ensures.1.1))
