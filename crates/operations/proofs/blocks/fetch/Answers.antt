-- `operations::blocks::fetch` meets its contract: the lowest run, or none. Assumes nothing.
use Rattle.std.specs.Result.{result_ok}
use mathlib.Core.Path.{ap, ◌∙◌}
use native.Mathlib.Omega.{arith}
use Rattle.block.proofs.Size.{top_le}
use Rattle.machine.specs.Operations.{lowest_run}
use Rattle.operands.proofs.Answers.{exits_with}
use Rattle.operations.specs.Answers.{told_fetched}
use Rattle.operations.proofs.Doing.{found_run, found_none}
use Rattle.operations.proofs.blocks.fetch.Goals as goal

pub returns-in_err-address : goal.returns-in_err-address
unfolding lowest_run
returns-in_err-address c =
    let none = c.ok_or.ensures.ok_part ∙ ap result_ok c.in_err-address.was in
    ap told_fetched (exits_with c.from_residual.ensures.1 (rw none at c.in_err-address.ensures.value))
    ∙ found_none _ _ c.lowest_run.ensures none

pub size_of-requires : goal.size_of-requires
size_of-requires c =
    omega (arith, c.requires.2, top_le c.args.setup.d)

pub returns : goal.returns
unfolding lowest_run
returns c =
    found_run _ _ c.lowest_run.ensures (c.ok_or.ensures.ok_part ∙ ap result_ok c.in_ok-address.was) c.size_of.ensures
