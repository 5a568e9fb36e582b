-- `character::changed` meets its contract. The loop's invariant: the characters that are left, with their leading ones changed, after
-- those that were made, make the result. Assumes nothing.
use mathlib.Core.Path.{◌≡◌, refl, sym, ◌∙◌}
use Prim.Native.Nat.{◌+◌, ◌-◌, ◌*◌, ◌%◌, ◌^◌, ◌<◌}
use native.Mathlib.Nat.{mod-lt, one-le-pow}
use native.Mathlib.Omega.{arith}
use Rattle.character.specs.Character.{digits, number, characters, packed, leading}
use Rattle.character.proofs.Digits.{growing, grown, grown_fits, whole_fits, leading_turn, leading_ends}
use Rattle.character.proofs.changed.Goals as goal
use Rattle.character.proofs.changed.Goals.{After-power-rest, Else-digit-old}

pub loop-left-init : goal.loop-left-init
unfolding packed characters
loop-left-init c = (growing c.args.n, refl)

-- what is left is below its power
below : (c : After-power-rest) → c.args.v % c.power-rest.result < c.power-rest.result
below c = mod-lt _ (rw c.power-rest.ensures (one-le-pow _ 64 (omega arith)))

-- that power
power_left : (c : After-power-rest) → c.power-rest.result ≡ 64 ^ c.loop-left.left
power_left c =
    let e : c.loop-left.left - 1 + 1 ≡ c.loop-left.left = omega (arith, c.loop-left-test.true) in
    rw e at c.power-rest.ensures

-- the value fits with what is left
whole : (c : After-power-rest)
    → c.loop-left.made * c.power-rest.result + c.args.v % c.power-rest.result < 2 ^ 64
whole c =
    let l = c.loop-left in
    rw (power_left c) (whole_fits _ l.invariant.0 (omega arith) (rw (power_left c) at (below c)))

pub overflow_mul-result : goal.overflow_mul-result
overflow_mul-result c = omega (arith, whole c)

pub nonzero_rem-result : goal.nonzero_rem-result
nonzero_rem-result c = omega (arith, below c)

pub overflow_add-result : goal.overflow_add-result
overflow_add-result c = record { fits = whole c }

pub returns-then-digit-old : goal.returns-then-digit-old
returns-then-digit-old c =
    let l = c.loop-left in
    let a = c.args in
    let digit = c.digit in
    rw (power_left c)
    (sym (leading_ends a.old a.new l.made l.left a.v digit.result c.loop-left-test.true digit.ensures c.if-digit-old.true)
    ∙ l.invariant.1)

-- the value still fits after a turn
room : (c : Else-digit-old) → c.loop-left.made * 64 + c.args.new < 2 ^ 64
room c =
    grown_fits c.loop-left.invariant.0 c.loop-left-test.true 64 c.args.new (omega arith) c.requires.0 c.requires.1

pub overflow_mul-made : goal.overflow_mul-made
overflow_mul-made c = omega (arith, room c)

pub overflow_add-made : goal.overflow_add-made
overflow_add-made c = record { fits = room c }

pub loop-left-preserved : goal.loop-left-preserved
loop-left-preserved c =
    let l = c.loop-left in (
      grown l.invariant.0 c.loop-left-test.true 64 c.args.new (omega arith) c.requires.0,
      sym (leading_turn c.args.old c.args.new l.made l.left c.args.v c.digit.result c.loop-left-test.true
          c.digit.ensures c.if-digit-old.false)
          ∙ l.invariant.1,
    )

pub returns : goal.returns
unfolding digits number leading
returns c =
    let none_left : c.loop-left.left ≡ 0 = omega arith in
    rw none_left at c.loop-left.invariant.1
