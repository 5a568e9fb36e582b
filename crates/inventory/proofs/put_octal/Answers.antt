-- `inventory::put_octal` meets its contract. The loop's invariant: the digits after those of rest are put. Assumes nothing.
use Prim.Native.Nat.{◌+◌, ◌-◌}
use mathlib.Core.List.{◌∷◌, []}
use mathlib.Core.Path.{◌≡◌, sym}
use native.Mathlib.Omega.{arith}
use Rattle.tour.proofs.Putting.{start, more, same_length as kept}
use Rattle.inventory.proofs.Octal.{ends_first, ends_next, ends_last}
use Rattle.inventory.proofs.Pieces.{puts_all, puts_as}
use Rattle.inventory.proofs.put_octal.Goals as goal

pub loop-init : goal.loop-init
loop-init c =
    let all : c.args.digits ≡ c.args.digits - 0 = omega arith in
    ([], rw (← all) (ends_first c.args.digits c.args.n), start c.args.at c.args.text.now c.requires.1)

pub put-place-requires : goal.put-place-requires
put-place-requires c =
    let (xs, ends, p) = c.loop.invariant in
    (omega (arith, p.starts, ends.long, c.requires.0), omega (arith, p.starts, p.inside, kept p))

pub loop-preserved : goal.loop-preserved
loop-preserved c =
    let (xs, ends, p) = c.loop.invariant in
    let less : c.args.digits - c.loop.counter - 1 ≡ c.args.digits - (c.loop.counter + 1) = omega arith in
    (_ ∷ xs, rw less at (ends_next ends (omega arith)), more p (_ ∷ []) c.put-place.ensures.result_value c.put-place.ensures.text_after)

pub returns : goal.returns
returns c =
    let (xs, ends, p) = c.loop.invariant in
    let none : c.args.digits - c.loop.counter ≡ 0 = omega arith in
    puts_as (puts_all _ p (omega (arith, ends.long))) (sym (ends_last ends none))
