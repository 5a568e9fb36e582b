-- `operations::blocks::get` meets its contract: 8, 17, and then the delivery. Assumes nothing.
use native.Mathlib.Omega.{arith}
use Rattle.block.proofs.Size.{top_le}
use Rattle.operations.proofs.Answers.{stops, exits_planned, follows}
use Rattle.operations.proofs.Doing.{level_fits_lem, get_none, get_large, get_run, get_no_run, run_deliverable}
use Rattle.operations.proofs.blocks.get.Goals as goal

pub returns-then-wanted-eq0 : goal.returns-then-wanted-eq0
returns-then-wanted-eq0 c = stops (get_none _ _ _ _ _ c.if-wanted-eq0.true)

pub returns-then-setup-wanted : goal.returns-then-setup-wanted
returns-then-setup-wanted c = stops (get_large _ _ _ _ _ c.if-wanted-eq0.false c.if-setup-wanted.true)

pub level_of-requires : goal.level_of-requires
level_of-requires c = omega (arith, c.top_of.ensures, top_le c.args.known.setup.d)

pub fetch-requires : goal.fetch-requires
fetch-requires c =
    (c.requires.0.whole, c.requires.0.kept, level_fits_lem _ _ c.top_of.ensures c.level_of.ensures)

pub deliver-requires : goal.deliver-requires
deliver-requires c = (
  c.requires.0,
  run_deliverable _ _ _ c.requires.0 c.requires.1 _
      (level_fits_lem _ _ c.top_of.ensures c.level_of.ensures) c.fetch.ensures
      c.in_ok-run.was,
  c.requires.2,
  c.requires.3,
)

pub returns : goal.returns
returns c =
    follows (get_run _ _ _ _ _ c.if-wanted-eq0.false c.if-setup-wanted.false c.top_of.ensures
    c.level_of.ensures c.fetch.ensures c.in_ok-run.was) c.deliver.ensures

pub returns-in_err-run : goal.returns-in_err-run
returns-in_err-run c =
    exits_planned _ c.from_residual.ensures.1 (get_no_run _ _ _ _ _ c.if-wanted-eq0.false c.if-setup-wanted.false c.top_of.ensures
    c.level_of.ensures c.fetch.ensures c.in_err-run.was)
