-- `columns::spread` meets its contract: each of the 256 bytes comes out as the definition has it, by computing (`spread_is`), and no sum
-- leaves 64 bits. Assumes nothing.
use native.Mathlib.Omega.{arith}
use Prim.Native.Nat.{◌*◌}
use lib.Bits.{and_le_r}
use Rattle.columns.proofs.Packing.{ones, spread_is}
use Rattle.columns.proofs.spread.Goals as goal

pub overflow_add-result : goal.overflow_add-result
overflow_add-result c = omega (arith, and_le_r (c.args.x * ones) 72624976668147840)

pub returns : goal.returns
returns c = spread_is c.args.x c.requires
