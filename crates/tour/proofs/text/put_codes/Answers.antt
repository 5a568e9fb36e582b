-- `tour::text::put_codes` meets its contract. The loop's invariant: the codes from left on are put, and what stands after the next one is
-- known. Assumes nothing.
use mathlib.Core.List.{◌∷◌, []}
use native.Mathlib.Omega.{arith}
use lib.ListN.{drop, length-drop}
use lib.Seq.{drop-length}
use Rattle.tour.specs.Tour.{octals, after_code}
use Rattle.tour.proofs.Putting.{start, more, same_length as kept, one_before, all_put}
use Rattle.tour.proofs.Digits.{length_octals}
use Rattle.tour.proofs.text.put_codes.Goals as goal

pub loop-left-init : goal.loop-left-init
unfolding octals after_code
loop-left-init c = (
  omega arith,
  rw (drop-length c.args.codes.now),
  rw (drop-length c.args.codes.now) (start c.args.at c.args.text.now c.requires.1),
)

pub put_code-place-requires : goal.put_code-place-requires
put_code-place-requires c =
    let p = c.loop-left.invariant.2 in
    let long = length-drop c.loop-left.left c.args.codes.now in
    let three = length_octals (drop c.loop-left.left c.args.codes.now) in
    (omega (arith, p.starts, p.inside), omega (arith, p.starts, p.inside, kept p))

pub loop-left-preserved : goal.loop-left-preserved
unfolding octals after_code
loop-left-preserved c =
    let p = c.loop-left.invariant.2 in
    let long = length-drop c.loop-left.left c.args.codes.now in
    let three = length_octals (drop c.loop-left.left c.args.codes.now) in
    let next = one_before c.args.codes.now c.loop-left.left (omega arith) c.loop-left.invariant.0 in (
      omega arith,
      rw next,
      rw next (more p (_ ∷ _ ∷ _ ∷ []) c.put_code-place.ensures.result_value
          (rw c.loop-left.invariant.1 at c.put_code-place.ensures.text_after)),
    )

pub shape_of-text : goal.shape_of-text
shape_of-text c = kept c.loop-left.invariant.2

pub returns : goal.returns
returns c =
    let all = all_put octals _ c.loop-left.left (omega arith) c.loop-left.invariant.2 in
    record { codes_value = all.0; text_after = all.1 }
