-- `word::arithmetic::divide` meets its contract. Where it rounds up, the divisor is at least 2, so that the quotient has room. Assumes nothing.
use Rattle.std.proofs.Common.{◌/◌, ◌≤◌, sym, ◌∙◌, mod-lt, mul-le-mul_left, div-add-mod', add-one, arith}
use Rattle.word.proofs.Nearest.{rounds_up, rounds_down}
use Rattle.word.proofs.arithmetic.divide.Goals as goal

pub overflow_sub-y : goal.overflow_sub-y
overflow_sub-y c = omega (arith, mod-lt c.args.x c.requires)

pub overflow_add-rest : goal.overflow_add-rest
overflow_add-rest c = omega (arith, mod-lt c.args.x c.requires)

pub overflow_add-result : goal.overflow_add-result
overflow_add-result c =
    let a = c.args in
    let rest = mod-lt a.x c.requires in
    let two : 2 ≤ a.y = omega arith in
    omega (arith, div-add-mod' a.x a.y, mul-le-mul_left (a.x / a.y) two)

pub returns-then-y-rest : goal.returns-then-y-rest
returns-then-y-rest c =
    let a = c.args in
    let rest = mod-lt a.x c.requires in
    add-one _ ∙ sym (rounds_up a.x a.y (omega arith))

pub returns : goal.returns
returns c =
    let a = c.args in
    let rest = mod-lt a.x c.requires in
    sym (rounds_down a.x a.y (omega arith))
