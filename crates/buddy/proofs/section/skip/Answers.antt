-- `skip` passes bytes below a tag. The loop's invariant: all that was passed is so. The measure is what is left up to the end. Assumes nothing.
use Rattle.std.proofs.Common.{arith}
use Rattle.buddy.specs.Lowest.{here, more}
use Rattle.buddy.proofs.section.skip.Goals as goal

pub loop-i-init : goal.loop-i-init
loop-i-init c = here

pub returns-then-least-map : goal.returns-then-least-map
returns-then-least-map c = (c.loop-i.invariant, λ less. c.if-least-map.true)

pub overflow_add-i : goal.overflow_add-i
overflow_add-i c = record { fits = omega arith }

pub loop-i-preserved : goal.loop-i-preserved
loop-i-preserved c = more c.loop-i.invariant c.loop-i-test.true c.if-least-map.false

pub returns : goal.returns
returns c = (c.loop-i.invariant, λ less. absurd (omega arith))

pub bounds-map-i : goal.bounds-map-i
bounds-map-i shared-slice-read-if1 = omega arith

pub loop-i-smaller : goal.loop-i-smaller
loop-i-smaller loop-less = omega arith
