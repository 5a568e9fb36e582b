-- `listing::put_block` meets its contract: the pair that is copied is placed (`part_placed`), and nothing placed changes nothing
-- (`placed_none`). Assumes nothing.
use native.Mathlib.Omega.{arith}
use native.Mathlib.Nat.{add-zero}
use Prim.Native.Nat.{ℕ, ◌+◌, ◌-◌, ◌≤◌}
use mathlib.Core.List.{List}
use mathlib.Core.Path.{◌≡◌, refl, sym, ap, ◌∙◌}
use lib.ListN.{length}
use borrow.Author.Rules.{rules}
use Rattle.machine.specs.Storage.{placed}
use Rattle.machine.proofs.Placed.{placed_none}
use Rattle.layout.proofs.Placing.{part_placed}
use Rattle.listing.specs.Listing.{pair_if}
use Rattle.listing.proofs.put_block.Goals as goal

pub slice_bounds-copy_from_slice-end : goal.slice_bounds-copy_from_slice-end
unfolding pair_if
slice_bounds-copy_from_slice-end c =
    let two : c.args.n + 2 ≤ length c.args.list.now = rw c.if-asked.true at c.requires in search rules

pub returns-then-asked : goal.returns-then-asked
unfolding pair_if
returns-then-asked c =
    let copied = c.copy_from_slice.ensures.after in
    let two : 2 ≡ c.args.n + 2 - c.args.n = omega arith in
    rw c.if-asked.true (record {
      value = refl;
      list_after = part_placed c.args.n _ c.args.list.now _ (ap length copied ∙ two)
          ∙ ap (λ (xs : List ℕ). placed c.args.n xs c.args.list.now) copied;
    })

pub returns : goal.returns
unfolding pair_if
returns c =
    rw c.if-asked.false (record {
      value = sym (add-zero c.args.n);
      list_after = sym (placed_none c.args.n c.args.list.now);
    })
