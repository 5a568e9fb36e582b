-- `word::fields::store_bits` meets its contract. What the field reads is a part of the word, so it can be taken away; by the law of the new
-- word the sum fits. Assumes nothing.
use mathlib.Core.Path.{subst⁻¹}
use Rattle.std.proofs.Common.{ℕ, ◌+◌, ◌%◌, ◌^◌, ◌<◌, mod-lt, arith, pow_pos}
use Rattle.word.specs.Field.{bits_of, stored_in}
use Rattle.word.proofs.Field.{new_word, in_parts, by_difference}
use Rattle.word.proofs.fields.store_bits.Goals as goal

-- a store leaves a word of 64 bits
fits : (n s w v : ℕ) → n + s < 64 → w < 2 ^ 64 → stored_in n s w v < 2 ^ 64
unfolding stored_in
fits n s w v short small = (new_word n s w (v % 2 ^ n) (mod-lt v (pow_pos n))).small 64 (omega arith) small

pub overflow_mul-old : goal.overflow_mul-old
unfolding bits_of
overflow_mul-old c =
    let a = c.args in
    rw (c.read_bits.ensures, c.power-place.ensures) (omega (arith, in_parts a.n a.s a.w))

pub overflow_mul-new : goal.overflow_mul-new
unfolding stored_in
overflow_mul-new c =
    let d = c.before.before in
    let a = d.args in
    rw (c.low_bits.ensures, d.power-place.ensures) (omega (arith, fits a.n a.s a.w a.v d.requires d.ranges.w.fits))

pub overflow_sub-result : goal.overflow_sub-result
unfolding bits_of
overflow_sub-result c =
    let d = c.before.before in
    let a = d.args in
    rw (c.read_bits.ensures, d.power-place.ensures) (omega (arith, in_parts a.n a.s a.w))

pub returns : goal.returns
unfolding bits_of
returns c =
    let d = c.before.before in
    let a = d.args in
    rw (c.low_bits.ensures, c.read_bits.ensures, d.power-place.ensures) (by_difference a.n a.s a.w a.v)

pub overflow_add-result : goal.overflow_add-result
overflow_add-result c =
    let a = c.args in
    record { fits = subst⁻¹ (λ (n : ℕ). n < 2 ^ 64) (returns c) (fits a.n a.s a.w a.v c.requires c.ranges.w.fits) }
