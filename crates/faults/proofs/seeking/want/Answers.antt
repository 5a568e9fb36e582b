-- `faults::seeking::want` meets its contract: each return puts at most one label, and none changes the length. Assumes nothing.
use native.Mathlib.Omega.{arith}
use mathlib.Core.Path.{refl}
use lib.ListN.{length-set}
use Rattle.faults.proofs.seeking.want.Goals as goal

pub returns-then-not-is_label : goal.returns-then-not-is_label
returns-then-not-is_label c = (omega arith, refl)

pub returns-then-known_row-ne0 : goal.returns-then-known_row-ne0
returns-then-known_row-ne0 c = (omega arith, refl)

pub returns-then-contains : goal.returns-then-contains
returns-then-contains c = (omega arith, refl)

pub returns : goal.returns
returns c = (omega arith, simp length-set)
