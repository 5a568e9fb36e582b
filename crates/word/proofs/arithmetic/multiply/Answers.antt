-- `word::arithmetic::multiply` meets its contract: no product of halves of h bits, and no sum of two, leaves 64 bits. Assumes nothing.
use Rattle.std.proofs.Common.{◌≡◌, ℕ, ◌+◌, ◌*◌, ◌/◌, ◌%◌, ◌^◌, ◌<◌, ◌≤◌, mod-lt, arith, pow_pos}
use Rattle.word.specs.Word.{product}
use Rattle.word.proofs.Modulo.{shifted_lt, halves_lt, halves_product}
use Rattle.word.proofs.arithmetic.multiply.Goals as goal

-- half the width, rounded up
abbrev half : ℕ → ℕ
half b = (b + 1) / 2

half_le : (b : ℕ) → b < 63 → half b ≤ 31
half_le b h = omega arith

-- a half's bits
below : (h x : ℕ) {r : ℕ} → r ≡ x % 2 ^ h → r < 2 ^ h
below h x e = rw e (mod-lt x (pow_pos h))

module _ (c : goal.After-low_bits-y1) where
  -- the two cross terms
  first : c.low_bits-x1.result * c.low_bits-y0.result < 2 ^ 62
  first = halves_lt (half c.args.b) (half_le c.args.b c.requires) (below (half c.args.b) _ c.low_bits-x1.ensures)
      (below (half c.args.b) _ c.low_bits-y0.ensures)

  second : c.low_bits-x0.result * c.low_bits-y1.result < 2 ^ 62
  second = halves_lt (half c.args.b) (half_le c.args.b c.requires) (below (half c.args.b) _ c.low_bits-x0.ensures)
      (below (half c.args.b) _ c.low_bits-y1.ensures)

module _ (c : goal.After-power) where
  -- the cross terms in their place, and the low product
  high : c.low_bits-cross.result * c.power.result < 2 ^ 62
  high =
      rw c.power.ensures
      (shifted_lt (half c.args.b) (half_le c.args.b c.requires) (below (half c.args.b) _ c.low_bits-cross.ensures))

  low : c.low_bits-x0.result * c.low_bits-y0.result < 2 ^ 62
  low = halves_lt (half c.args.b) (half_le c.args.b c.requires) (below (half c.args.b) _ c.low_bits-x0.ensures)
      (below (half c.args.b) _ c.low_bits-y0.ensures)

pub overflow_mul-x1 : goal.overflow_mul-x1
overflow_mul-x1 c = omega (arith, first c)

pub overflow_mul-x0 : goal.overflow_mul-x0
overflow_mul-x0 c = omega (arith, second c)

pub overflow_add-x1 : goal.overflow_add-x1
overflow_add-x1 c = omega (arith, first c, second c)

pub overflow_mul-cross : goal.overflow_mul-cross
overflow_mul-cross c = omega (arith, high c)

pub overflow_mul-x0-2 : goal.overflow_mul-x0-2
overflow_mul-x0-2 c = omega (arith, low c)

pub overflow_add-cross : goal.overflow_add-cross
overflow_add-cross c = omega (arith, high c, low c)

pub returns : goal.returns
unfolding product
returns c =
    rw (
      c.low_bits.ensures,
      c.low_bits-cross.ensures,
      c.power.ensures,
      c.low_bits-y1.ensures,
      c.low_bits-y0.ensures,
      c.low_bits-x1.ensures,
      c.low_bits-x0.ensures,
    )
    (halves_product c.args.b (half c.args.b) c.args.x c.args.y (omega arith))
