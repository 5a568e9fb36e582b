-- `commit::carry::take_run` meets its contract: the map is delivered, and the words are filled. Assumes nothing.
use native.Mathlib.Omega.{arith}
use Rattle.block.proofs.Size.{top_le}
use Rattle.commit.proofs.Delivering.{run_low, run_inside, run_lies, run_small, run_first, run_delivered, copy_lies}
use Rattle.commit.proofs.carry.take_run.Goals as goal

pub level_of-j-requires : goal.level_of-j-requires
level_of-j-requires c = omega (arith, c.top_of.ensures, top_le c.args.setup.d)

pub deliver-requires : goal.deliver-requires
deliver-requires c =
    let r = c.requires.2 in (
      c.requires.0,
      c.requires.1,
      run_low _ r,
      run_inside _ r,
      run_small _ r c.top_of.ensures c.level_of-j.ensures,
      run_first _ r c.top_of.ensures c.level_of-j.ensures,
    )

pub fill-requires : goal.fill-requires
fill-requires c =
    let r = c.requires.2 in (run_low _ r, run_lies _ r, λ some. copy_lies _ r (c.requires.3 some))

pub returns : goal.returns
returns c = (
  run_delivered _ c.requires.2 c.top_of.ensures c.level_of-j.ensures c.deliver.ensures,
  c.fill.ensures,
)
