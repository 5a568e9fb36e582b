-- `faults::seeking::want_word` meets its contract: a word that is no use puts nothing, and another what `want` does. Assumes nothing.
use native.Mathlib.Omega.{arith}
use mathlib.Core.Path.{refl}
use Rattle.faults.proofs.seeking.want_word.Goals as goal

pub is_use-requires : goal.is_use-requires
is_use-requires c = c.requires.0

pub returns-then-not-is_use : goal.returns-then-not-is_use
returns-then-not-is_use c = (omega arith, refl)

pub want-requires : goal.want-requires
want-requires c =
    c.requires.1

pub returns : goal.returns
returns c = c.want.ensures
