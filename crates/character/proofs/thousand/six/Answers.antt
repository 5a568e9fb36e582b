-- `character::thousand::six` meets its contract: the array's entries are those of the definition, one after the other. Assumes nothing.
use mathlib.Core.Path.{◌≡◌}
use Prim.Native.Nat.{◌/◌, ◌%◌}
use native.Mathlib.Omega.{arith}
use lib.ListN.{get_or}
use Rattle.character.specs.Thousand.{thousand}
use Rattle.character.proofs.Entries.{thousand_small}
use Rattle.character.proofs.thousand.six.Goals as goal
use Rattle.character.proofs.thousand.six.Goals.{After-from, After-from-2}

-- what is looked up
high : (c : After-from) → c.from.result ≡ get_or thousand (c.args.k / 1000) 0
unfolding thousand
high c = c.from.ensures

low : (c : After-from-2) → c.from-2.result ≡ get_or thousand (c.args.k % 1000) 0
unfolding thousand
low c = c.from-2.ensures

pub overflow_mul-result : goal.overflow_mul-result
overflow_mul-result c = rw (high c) (omega (arith, thousand_small (c.args.k / 1000) (omega arith)))

pub overflow_add-result : goal.overflow_add-result
overflow_add-result c =
    let k = c.args.k in
    rw (high c.before, low c)
    (omega (arith, thousand_small (k / 1000) (omega arith), thousand_small (k % 1000) (omega arith)))

pub returns : goal.returns
returns c = rw (high c.before, low c)
