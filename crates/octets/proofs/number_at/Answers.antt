-- `octets::number_at` meets its contract. The loop's invariant: the number of the bytes from left on. Assumes nothing.
use native.Mathlib.Omega.{arith}
use Prim.Native.Nat.{ℕ, ◌^◌, ◌<◌}
use Rattle.octets.proofs.Reading.{low_none, low_fits, low_next, low_all}
use Rattle.octets.proofs.number_at.Goals as goal

-- a byte fits a word
byte_fits : (x : ℕ) → x < 256 → x < 2 ^ 64
byte_fits x h = omega arith

pub loop-left-init : goal.loop-left-init
loop-left-init c = low_none c.args.bytes.now c.args.at c.args.n

pub overflow_mul-number : goal.overflow_mul-number
overflow_mul-number c = omega (arith, low_fits c.loop-left.invariant (omega arith) c.requires.0 0 (omega arith))

pub overflow_add-number : goal.overflow_add-number
overflow_add-number c =
    record { fits = omega (arith, c.loop-left.invariant.few, c.requires.1, c.well_formed.0.0) }

pub bounds-bytes-at : goal.bounds-bytes-at
bounds-bytes-at c = omega (arith, c.loop-left.invariant.few, c.requires.1)

pub overflow_cast-number : goal.overflow_cast-number
overflow_cast-number c = record { fits = byte_fits _ (c.shared_slice_known-1.given _).fits }

pub overflow_add-number-in-loop-left : goal.overflow_add-number-in-loop-left
overflow_add-number-in-loop-left c =
    record { fits = low_fits c.loop-left.invariant (omega arith) c.requires.0 _ (c.shared_slice_known-1.given _).fits }

pub loop-left-preserved : goal.loop-left-preserved
loop-left-preserved c =
    low_next c.loop-left.invariant (omega arith) c.requires.1 (c.shared_slice_known-1.given _).fits

pub returns : goal.returns
returns c =
    low_all c.args.bytes.now c.args.at c.args.n c.loop-left.left c.loop-left.number c.loop-left.invariant (omega arith)
