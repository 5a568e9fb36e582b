-- `table::references::names_in` meets its contract. The loop's invariant: the names found so far stand in fields from place from
-- on, and the digits of v are those of what is left before them. The measure is what is left. Assumes nothing.
use native.Mathlib.Omega.{arith}
use mathlib.Core.Path.{refl}
use Rattle.table.proofs.Digits.{found_first, found_next, found_last, found_pos, found_digit}
use Rattle.table.proofs.references.names_in.Goals as goal

pub loop-rest-init : goal.loop-rest-init
loop-rest-init c = found_first _ _ c.requires refl

pub overflow_sub-from : goal.overflow_sub-from
overflow_sub-from c = found_pos c.loop-rest.invariant c.loop-rest-test.true

pub overflow_sub-fields : goal.overflow_sub-fields
overflow_sub-fields c = let d = found_digit c.loop-rest.invariant c.loop-rest-test.true in omega (arith, d.low)

pub overflow_cast-fields : goal.overflow_cast-fields
overflow_cast-fields c = let d = found_digit c.loop-rest.invariant c.loop-rest-test.true in omega (arith, d.high)

pub bounds-fields-from : goal.bounds-fields-from
bounds-fields-from c = omega (arith, c.loop-rest.invariant.few)

pub loop-rest-preserved : goal.loop-rest-preserved
loop-rest-preserved c = found_next c.loop-rest.invariant c.loop-rest-test.true

pub overflow_sub-result : goal.overflow_sub-result
overflow_sub-result c = let l = found_last c.loop-rest.invariant c.loop-rest-test.false in omega (arith, l.low)

pub returns : goal.returns
returns c = let so_far = c.loop-rest.invariant in ((found_last so_far c.loop-rest-test.false).whole, so_far.room)

pub loop-rest-smaller : goal.loop-rest-smaller
loop-rest-smaller loop-less = omega arith
