-- `tour::numbers::read_numbers` meets its contract. The loop's invariant: the numbers from left on are put. Assumes nothing.
use mathlib.Core.List.{◌∷◌, []}
use mathlib.Core.Path.{◌≡◌, ap, ◌∙◌}
use native.Mathlib.Nat.{sub-zero}
use native.Mathlib.Omega.{arith}
use Prim.Native.Nat.{ℕ}
use Rattle.tour.specs.Put.{put_before}
use Rattle.tour.proofs.Putting.{start, more, put_one, same_length as kept}
use Rattle.tour.proofs.Tables.{from_none, from_next}
use Rattle.tour.proofs.numbers.read_numbers.Goals as goal

pub loop-left-init : goal.loop-left-init
loop-left-init c =
    (omega arith, rw (from_none c.args.bytes.now c.args.n) (start c.args.n c.args.table.now c.requires.1))

pub bounds-table-left : goal.bounds-table-left
bounds-table-left c = omega (arith, kept c.loop-left.invariant.1)

pub loop-left-preserved : goal.loop-left-preserved
loop-left-preserved c =
    let p = c.loop-left.invariant.1 in
    let one = put_one c.loop-left.left c.number_at.result c.loop-left.table c.loop-left-test.true (omega (arith, kept p)) in (
      omega arith,
      rw (from_next c.args.bytes.now c.args.n c.loop-left.left c.loop-left-test.true
          c.loop-left.invariant.0) (more p (_ ∷ []) (omega arith) (one ∙ ap (λ (v : ℕ). put_before c.loop-left.left (v ∷ []) c.loop-left.table)
          c.number_at.ensures)),
    )

pub shape_of-table : goal.shape_of-table
shape_of-table c = kept c.loop-left.invariant.1

pub returns : goal.returns
returns c =
    let none : c.loop-left.left ≡ 0 = omega arith in
    let p = rw none at c.loop-left.invariant.1 in
    rw (sub-zero c.args.n) at p.buffer
