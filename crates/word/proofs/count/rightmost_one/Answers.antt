-- `word::count::rightmost_one` meets its contract: without a one it is the width (`rightmost_none`), and otherwise the zeros right of the
-- one give its place (`rightmost_one`). Assumes nothing.
use Rattle.std.proofs.Common.{◌≡◌, suc, ◌+◌, sym, ◌∙◌, arith}
use lib.Count.{count_trailing_zeros, trailing_le}
use Rattle.word.specs.Word.{rightmost}
use Rattle.word.proofs.Places.{rightmost_one, rightmost_none}
use Rattle.word.proofs.count.rightmost_one.Goals as goal

-- where there is a one, its place
place : (c : goal.Else-bits-eq0) → rightmost 1 c.args.w c.args.v + suc (count_trailing_zeros 64 c.low_bits-bits.result)
    ≡ c.args.w
place c =
    let w = c.args.w in
    let v = c.args.v in
    let e = c.low_bits-bits.ensures in
    rw e (rightmost_one w v c.requires (omega (arith, e)))

pub overflow_sub-result : goal.overflow_sub-result
overflow_sub-result c = omega (arith, place c)

pub overflow_cast-result : goal.overflow_cast-result
overflow_cast-result c = record { fits = omega (arith, trailing_le 64 c.low_bits-bits.result) }

pub overflow_sub-result-else-bits-eq0 : goal.overflow_sub-result-else-bits-eq0
overflow_sub-result-else-bits-eq0 c = omega (arith, place c)

pub returns-then-bits-eq0 : goal.returns-then-bits-eq0
returns-then-bits-eq0 c =
    let start = c.before.before in
    sym (rightmost_none start.args.w start.args.v (sym c.low_bits-bits.ensures ∙ c.if-bits-eq0.true))

pub returns-else-bits-eq0 : goal.returns-else-bits-eq0
returns-else-bits-eq0 c = omega (arith, place c)
