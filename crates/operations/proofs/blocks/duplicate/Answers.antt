-- `operations::blocks::duplicate` meets its contract: 15, 17. Assumes nothing.
use native.Mathlib.Omega.{arith}
use Rattle.block.proofs.Size.{top_le}
use Rattle.operations.specs.Deeds.{meant}
use Rattle.operations.proofs.Answers.{does, stops, exits_planned}
use Rattle.operations.proofs.Doing.{level_fits_lem, copy_none, copy_run, copy_no_run}
use Rattle.operations.proofs.blocks.duplicate.Goals as goal

pub live_size-n-requires : goal.live_size-n-requires
live_size-n-requires c = (c.requires.0, c.requires.1)

pub returns-then-n-eq0 : goal.returns-then-n-eq0
returns-then-n-eq0 c = stops (copy_none _ _ _ _ c.live_size-n.ensures c.if-n-eq0.true)

pub level_of-requires : goal.level_of-requires
level_of-requires c = omega (arith, c.top_of.ensures, top_le c.args.setup.d)

pub fetch-requires : goal.fetch-requires
fetch-requires c =
    (c.requires.0, c.requires.1, level_fits_lem _ _ c.top_of.ensures c.level_of.ensures)

pub returns : goal.returns
unfolding meant
returns c =
    does _ (copy_run _ _ _ _ c.live_size-n.ensures c.if-n-eq0.false c.top_of.ensures
    c.level_of.ensures c.fetch.ensures c.in_ok-run.was)

pub returns-in_err-run : goal.returns-in_err-run
returns-in_err-run c =
    exits_planned _ c.from_residual.ensures.1 (copy_no_run _ _ _ _ c.live_size-n.ensures c.if-n-eq0.false c.top_of.ensures
    c.level_of.ensures c.fetch.ensures c.in_err-run.was)
