-- `word::count::leftmost_one` meets its contract: of 64 bits the zeros left of the first one are those outside the width and those within
-- it (`leftmost_one`). Assumes nothing.
use Rattle.std.proofs.Common.{ℕ, ◌-◌, ◌%◌, ◌^◌, ◌<◌, ◌≤◌, arith}
use lib.Count.{count_leading_zeros, leading_le}
use Rattle.word.proofs.Places.{leftmost_one}
use Rattle.word.proofs.count.leftmost_one.Goals as goal

pub overflow_cast-result : goal.overflow_cast-result
overflow_cast-result c = record { fits = omega (arith, leading_le 64 c.low_bits.result) }

-- the 64 bits begin with zeros outside the width
outside : (w x : ℕ) → w < 64 → 64 - w ≤ count_leading_zeros 64 (x % 2 ^ w)
outside w x h = omega (arith, leftmost_one w x h)

pub overflow_sub-result-2 : goal.overflow_sub-result-2
overflow_sub-result-2 c =
    let out : 64 - c.args.w ≤ count_leading_zeros 64 c.low_bits.result = rw c.low_bits.ensures (outside _ _ c.requires) in
    omega arith

pub returns : goal.returns
returns c = rw c.low_bits.ensures (omega (arith, leftmost_one c.args.w c.args.v c.requires))
