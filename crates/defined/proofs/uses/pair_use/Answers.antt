-- `defined::uses::pair_use` meets its contract: a pair of another form refers to no field (`pair_not`), and a reference to those of its
-- names (`pair_is`). Assumes nothing.
use Rattle.defined.proofs.Reading.{pair_not, pair_is}
use Rattle.defined.proofs.Telling.{first_tells, first_is}
use native.Mathlib.Omega.{arith}
use Rattle.defined.proofs.uses.pair_use.Goals as goal

pub returns-then-p-ne-REFERENCE : goal.returns-then-p-ne-REFERENCE
returns-then-p-ne-REFERENCE c = first_tells _ _ (pair_not _ _ (omega arith))

pub names_in-requires : goal.names_in-requires
names_in-requires c = c.requires (omega arith)

pub returns : goal.returns
returns c =
    first_tells _ _ (pair_is _ _ c.names_in.result (omega arith) c.names_in.ensures.0 (first_is _ _ c.name_in.ensures))
