-- `near` rounds an address down. The measure is how far the rounding is from 128. Assumes nothing.
use Rattle.std.proofs.Common.{div-mul-le_self, arith}
use Rattle.allocations.proofs.maps.near.Goals as goal

pub overflow_mul-rounded : goal.overflow_mul-rounded
overflow_mul-rounded c = record { fits = omega (arith, div-mul-le_self c.args.address c.loop-n.n) }

pub live_size-requires : goal.live_size-requires
live_size-requires c =
    (c.requires.0, c.requires.1)

pub overflow_add-n : goal.overflow_add-n
overflow_add-n c = record { fits = omega arith }

pub overflow_mul-result : goal.overflow_mul-result
overflow_mul-result c = record { fits = omega (arith, div-mul-le_self c.args.address 128) }

pub loop-n-init : goal.loop-n-init
loop-n-init loop-holds = omega arith

pub nonzero_div-rounded : goal.nonzero_div-rounded
nonzero_div-rounded div-rounded = omega arith

pub loop-n-smaller : goal.loop-n-smaller
loop-n-smaller loop-less = omega arith

pub loop-n-preserved : goal.loop-n-preserved
loop-n-preserved loop-again = omega arith
