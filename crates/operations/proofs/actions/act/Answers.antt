-- `operations::actions::act` meets its contract: by the code. Assumes nothing.
use Rattle.table.specs.Row.{as_row, pair_at}
use Rattle.operands.proofs.Operands.{contents_small, width_small}
use Rattle.operations.proofs.Answers.{follows}
use Rattle.operations.proofs.Doing.{act_get, act_free, act_copy, act_take, act_make, makes}
use Rattle.operations.proofs.actions.act.Goals as goal

pub get-requires : goal.get-requires
unfolding as_row pair_at
get-requires c =
    (c.requires.0, c.requires.2, rw c.pair_at-third.ensures c.requires.6, c.requires.7)

pub free-requires : goal.free-requires
free-requires c =
    (c.requires.0.whole, c.requires.0.kept)

pub duplicate-requires : goal.duplicate-requires
duplicate-requires c =
    (c.requires.0.whole, c.requires.0.kept)

pub take-requires : goal.take-requires
take-requires c =
    (c.requires.0.width, c.requires.1)

pub make-requires : goal.make-requires
unfolding as_row
make-requires c =
    let r = c.in_default.in_default-own.rest in (
      c.requires.0.width,
      rw c.requires.7 (contents_small _ _ c.requires.0 _ c.requires.2),
      c.requires.3,
      width_small _ _ c.requires.0 _ c.requires.2,
      c.requires.4,
      makes c.requires.5 r.0.0.0.1 r.0.0.1 r.0.1 r.1,
    )

pub returns-in-3 : goal.returns-in-3
unfolding as_row pair_at
returns-in-3 c = follows (act_get _ _ _ _ _ _ _ _ c.in-3.is) (rw c.pair_at-third.ensures at c.get.ensures)

pub returns-in-4 : goal.returns-in-4
unfolding as_row
returns-in-4 c =
    follows (act_free _ _ _ _ _ _ _ _ c.in-4.is c.requires.7) c.free.ensures

pub returns-in-5 : goal.returns-in-5
unfolding as_row
returns-in-5 c = follows (act_copy _ _ _ _ _ _ _ _ c.in-5.is) c.duplicate.ensures

pub returns-in-24 : goal.returns-in-24
unfolding as_row
returns-in-24 c = follows (act_take _ _ _ _ _ _ _ _ c.in-24.is) c.take.ensures

pub returns-in_default : goal.returns-in_default
unfolding as_row
returns-in_default c =
    let r = c.in_default.in_default-own.rest in
    follows (act_make _ _ _ _ _ _ _ _ r.0.0.0.1 r.0.0.1 r.0.1 r.1 c.requires.7) c.make.ensures
