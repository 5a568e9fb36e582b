-- `player::put_report` meets its contract: three parts of four numbers stand in a row (`three_row`), which is all of the twelve (`whole`).
-- Assumes nothing.
use Prim.Native.Nat.{ℕ, ◌-◌}
use native.Mathlib.Omega.{arith}
use mathlib.Core.List.{List, [], ◌∷◌, ◌++◌}
use mathlib.Core.Path.{◌≡◌, refl, ap, ◌∙◌}
use lib.ListN.{length, drop, length-append}
use borrow.Rule.Slice.PartMut.{put_mid}
use Rattle.machine.specs.Storage.{placed}
use Rattle.machine.proofs.Placed.{length_placed}
use Rattle.layout.proofs.Placing.{part_placed, three_row, whole}
use Rattle.player.specs.Calls.{numbers_of_store, numbers_of_report}
use Rattle.player.proofs.put_report.Goals as goal

-- three lists of four numbers, copied one after the other into twelve
module _ (t x y z : List ℕ) (room : length t ≡ 12) (lx : length x ≡ 4) (ly : length y ≡ 4) (lz : length z ≡ 4) where
  one : x ++ drop 4 t ≡ placed 0 x t
  unfolding placed
  one = rw lx

  two : put_mid 4 4 (x ++ drop 4 t) y ≡ placed 4 y (x ++ drop 4 t)
  two = part_placed 4 4 (x ++ drop 4 t) y ly

  long : length (put_mid 4 4 (x ++ drop 4 t) y) ≡ 12
  long =
      let first : length (x ++ drop 4 t) ≡ 12 = ap length one ∙ length_placed 0 x t (omega arith) ∙ room in
      ap length two ∙ length_placed 4 y (x ++ drop 4 t) (omega arith) ∙ first

  all : (put_mid 8 (length (put_mid 4 4 (x ++ drop 4 t) y) - 8) (put_mid 4 4 (x ++ drop 4 t) y) z) ≡ x ++ (y ++ z)
  all =
      (three_row 0 4 4 4 x y z t lx ly lz one two (part_placed 8 _ _ z (omega (arith, long))) (omega arith)).put.same
      ∙ whole _ t (simp length-append (omega arith))

pub returns : goal.returns
unfolding numbers_of_store numbers_of_report
returns c =
    let of = c.args.of in
    rw (
      c.copy_from_slice.ensures.after,
      c.copy_from_slice-2.ensures.after,
      c.copy_from_slice-3.ensures.after,
      c.numbers_of.ensures,
      c.numbers_of-2.ensures,
    )
    (all c.args.report.now (of.freed ∷ of.delivered ∷ of.size ∷ of.copied ∷ []) (numbers_of_store of.first) (numbers_of_store of.second) c.requires
    refl refl refl)
