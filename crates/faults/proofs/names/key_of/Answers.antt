-- `faults::names::key_of` meets its contract. The loop's invariant: the bytes left make the number after those passed. Assumes nothing.
use native.Mathlib.Omega.{arith}
use Rattle.faults.proofs.Keys.{keying_none, keying_small, keying_more, keying_all}
use Rattle.faults.proofs.names.key_of.Goals as goal

pub loop-i-init : goal.loop-i-init
loop-i-init c = keying_none _

pub overflow_mul-key : goal.overflow_mul-key
overflow_mul-key c = let small = keying_small _ c.loop-i.invariant c.loop-i-test.true in omega arith

pub overflow_add-key : goal.overflow_add-key
overflow_add-key c =
    let small = keying_small _ c.loop-i.invariant c.loop-i-test.true in omega (arith, c.byte_or_zero.ensures.1)

pub loop-i-preserved : goal.loop-i-preserved
loop-i-preserved c = keying_more _ c.loop-i.invariant c.loop-i-test.true _ c.byte_or_zero.ensures.0 c.byte_or_zero.ensures.1

pub returns : goal.returns
returns c = keying_all _ c.loop-i.invariant c.loop-i-test.false
