-- `character::to_binary` meets its contract. The loop's invariant: the characters that are left, after those that were read, come to the result.
-- Assumes nothing.
use mathlib.Core.Path.{◌≡◌, refl, sym, ◌∙◌}
use mathlib.Core.Option.{none, some}
use Prim.Native.Nat.{◌+◌, ◌*◌, ◌^◌, ◌<◌}
use native.Mathlib.Omega.{arith}
use Rattle.character.specs.Character.{digits, number, characters, all_below, to_binary}
use Rattle.character.specs.Converted.{told_converted, converting}
use Rattle.character.proofs.Digits.{growing, grown, grown_fits, answer, answer_turn, answer_ends}
use Rattle.character.proofs.to_binary.Goals as goal
use Rattle.character.proofs.to_binary.Goals.{Else-next-base}

pub loop-left-init : goal.loop-left-init
unfolding answer to_binary characters
loop-left-init c = (growing c.args.n, refl)

pub returns-then-next-base : goal.returns-then-next-base
unfolding told_converted converting
returns-then-next-base c =
    let a = c.args in
    let next = c.digit-next in
    let stop = answer_ends some none a.base c.loop-left.made c.loop-left.left a.v next.result c.loop-left-test.true
    next.ensures c.if-next-base.true in
    let refused : to_binary a.base a.n a.v ≡ none = sym c.loop-left.invariant.1 ∙ stop in
    rw refused

-- the value still fits after a turn
room : (c : Else-next-base)
    → c.loop-left.made * c.args.base + c.digit-next.result < 2 ^ 64
room c =
    grown_fits c.loop-left.invariant.0 c.loop-left-test.true c.args.base _ c.requires.0 (omega arith) c.requires.1

pub overflow_mul-made : goal.overflow_mul-made
overflow_mul-made c = omega (arith, room c)

pub overflow_add-made : goal.overflow_add-made
overflow_add-made c = record { fits = room c }

pub loop-left-preserved : goal.loop-left-preserved
loop-left-preserved c =
    let a = c.args in
    let next = c.digit-next in
    let more = c.loop-left-test.true in (
      grown c.loop-left.invariant.0 more a.base next.result c.requires.0 (omega arith),
      sym (answer_turn some none a.base c.loop-left.made c.loop-left.left a.v next.result more next.ensures c.if-next-base.false)
          ∙ c.loop-left.invariant.1,
    )

pub returns : goal.returns
unfolding answer digits number all_below told_converted converting
returns c =
    let none_left : c.loop-left.left ≡ 0 = omega arith in
    rw (← (rw none_left at c.loop-left.invariant.1))
