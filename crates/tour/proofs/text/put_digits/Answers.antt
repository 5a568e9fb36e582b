-- `tour::text::put_digits` meets its contract. The loop's invariant: the digits after those of rest are put. Assumes nothing.
use mathlib.Core.List.{◌∷◌, []}
use mathlib.Core.Path.{◌≡◌}
use native.Mathlib.Omega.{arith}
use Rattle.tour.proofs.Putting.{start, more, same_length as kept}
use Rattle.tour.proofs.Digits.{ends_first, ends_next, ends_room, ends_last}
use Rattle.tour.proofs.text.put_digits.Goals as goal

pub loop-rest-init : goal.loop-rest-init
loop-rest-init c = (c.requires.0, ([], ends_first c.args.n, start c.args.at c.args.text.now c.requires.1))

pub put-place-requires : goal.put-place-requires
put-place-requires c =
    let (xs, ends, p) = c.loop-rest.invariant.1 in
    let room = ends_room ends c.loop-rest-test.true in
    (omega (arith, p.starts, c.loop-rest.invariant.0), omega (arith, p.starts, p.inside, kept p))

pub loop-rest-preserved : goal.loop-rest-preserved
loop-rest-preserved c =
    let (xs, ends, p) = c.loop-rest.invariant.1 in
    let room = ends_room ends c.loop-rest-test.true in
    (c.loop-rest.invariant.0, (_ ∷ xs, ends_next ends c.loop-rest-test.true, more p (_ ∷ []) c.put-place.ensures.result_value c.put-place.ensures.text_after))

pub shape_of-text : goal.shape_of-text
shape_of-text c = let (xs, ends, p) = c.loop-rest.invariant.1 in kept p

pub returns : goal.returns
returns c =
    let (xs, ends, p) = c.loop-rest.invariant.1 in
    let none : c.loop-rest.rest ≡ 0 = omega arith in
    let all = ends_last ends none in
    record {
      n_value = rw all p.starts;
      text_after = rw all p.buffer;
    }
