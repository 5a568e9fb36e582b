-- `lines::kinds::is_number` meets its contract. The loop's invariant: the digits passed have the value, below the limit. Assumes nothing.
use Prim.Native.Nat.{ℕ, ◌*◌, ◌^◌, ◌≤◌, ◌<◌}
use native.Mathlib.Nat.{mul-le-mul_left}
use native.Mathlib.Omega.{arith}
use Rattle.word.proofs.Tests.{known_true, known_false}
use Rattle.lines.proofs.Literals.{valued_none, valued_more, valued_not, valued_over, valued_all, digit_least}
use Rattle.lines.proofs.Library.{no_bytes}
use Rattle.lines.proofs.kinds.is_number.Goals as goal

tenfold : (v base : ℕ) → base ≤ 10 → v < 2 ^ 48 → v * base ≤ 2 ^ 52
tenfold v base h l = let times : v * base ≤ v * 10 = mul-le-mul_left v h in omega arith

pub loop-x-init : goal.loop-x-init
loop-x-init c = valued_none _ _ _ c.requires.0

pub is_digit_of-requires : goal.is_digit_of-requires
is_digit_of-requires c = c.requires.1.1.1

pub returns-then-not-is_digit_of : goal.returns-then-not-is_digit_of
returns-then-not-is_digit_of c =
    valued_not _ _ _ c.loop-x.invariant c.loop-x-test.true (known_false c.is_digit_of.ensures c.if-not-is_digit_of.true-raw)

pub overflow_mul-v : goal.overflow_mul-v
overflow_mul-v c =
    let small = c.loop-x.invariant.small in rw c.from.ensures (omega (arith, tenfold c.loop-x.v c.args.base c.requires.1.1.1 (omega arith)))

pub overflow_add-v : goal.overflow_add-v
overflow_add-v c =
    let small = c.loop-x.invariant.small in
    rw (c.from.ensures, c.from-in-loop-x.ensures)
    (omega (arith, c.type_inv.w c.loop-x.x-index, tenfold c.loop-x.v c.args.base c.requires.1.1.1 (omega arith)))

pub overflow_sub-v : goal.overflow_sub-v
overflow_sub-v c =
    let least = digit_least c.args.base 0 c.args.w.now _ (known_true c.is_digit_of.ensures c.if-not-is_digit_of.false-raw) in
    omega (arith, c.from-in-loop-x.ensures)

pub returns-then-below-v : goal.returns-then-below-v
returns-then-below-v c =
    valued_over _ _ _ c.requires.1.1.0 c.loop-x.invariant c.loop-x-test.true
    (known_true c.is_digit_of.ensures c.if-not-is_digit_of.false-raw) (rw (c.from.ensures, c.from-in-loop-x.ensures) at c.if-below-v.true)

pub loop-x-preserved : goal.loop-x-preserved
loop-x-preserved c =
    rw (c.from.ensures, c.from-in-loop-x.ensures) (valued_more _ _ _ c.loop-x.invariant c.loop-x-test.true
    (known_true c.is_digit_of.ensures c.if-not-is_digit_of.false-raw) (rw (c.from.ensures, c.from-in-loop-x.ensures) at c.if-below-v.false))

pub returns : goal.returns
returns c = rw (c.is_empty.ensures, no_bytes) (valued_all _ _ _ c.loop-x.invariant c.loop-x-test.false)
