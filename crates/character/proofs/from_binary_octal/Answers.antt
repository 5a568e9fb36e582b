-- `character::from_binary_octal` meets its contract. The loop's invariant: the digits that are left, after those that were made, make the result.
-- Assumes nothing.
use mathlib.Core.Path.{◌≡◌, refl}
use native.Mathlib.Omega.{arith}
use Prim.Native.Nat.{ℕ, ◌+◌, ◌*◌, ◌^◌, ◌<◌}
use Rattle.character.specs.Character.{digits, number, packed, from_binary}
use Rattle.character.proofs.Digits.{growing, grown, grown_fits, number_next}
use Rattle.character.proofs.from_binary_octal.Goals as goal
use Rattle.character.proofs.from_binary_octal.Goals.{In-loop-left}

pub loop-left-init : goal.loop-left-init
unfolding from_binary packed
loop-left-init c = (growing c.args.n, refl)

-- the value still fits after a turn
room : (c : In-loop-left) (x : ℕ) → x < 64 → c.loop-left.made * 64 + x < 2 ^ 64
room c x h = grown_fits c.loop-left.invariant.0 c.loop-left-test.true 64 x (omega arith) h c.requires

pub overflow_mul-made : goal.overflow_mul-made
overflow_mul-made c = omega (arith, room c 0 (omega arith))

pub overflow_add-made : goal.overflow_add-made
overflow_add-made c = record { fits = room c.before _ (omega arith) }

pub loop-left-preserved : goal.loop-left-preserved
loop-left-preserved c =
    let l = c.loop-left in (
      grown l.invariant.0 c.loop-left-test.true 64 _ (omega arith) (omega arith),
      cc (number_next 64 8 l.made l.left c.args.v c.loop-left-test.true),
    )

pub returns : goal.returns
unfolding number digits
returns c =
    let none : c.loop-left.left ≡ 0 = omega arith in
    rw none at c.loop-left.invariant.1
