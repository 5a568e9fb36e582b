-- `layout::writing::put_map` meets its contract: bytes are those of numbers of one byte. Assumes nothing.
use Prim.Native.Nat.{ℕ}
use mathlib.Core.List.{List}
use mathlib.Core.Path.{◌≡◌, sym, ap, ◌∙◌}
use lib.ListN.{length}
use borrow.Author.Rules.{rules}
use Rattle.machine.specs.Storage.{placed}
use Rattle.layout.proofs.Placing.{part_placed}
use Rattle.layout.proofs.Widths.{bytes_same}
use Rattle.layout.proofs.writing.put_map.Goals as goal

pub returns-clause-bytes_after : goal.returns-clause-bytes_after
returns-clause-bytes_after c =
    let copied = c.copy_from_slice.ensures.after in
    let long : length c.args.map.now ≡ 4096 = search rules in
    part_placed 2579 4096 c.args.bytes.now c.copy_from_slice.new.self (ap length copied ∙ long)
    ∙ ap (λ (xs : List ℕ). placed 2579 xs c.args.bytes.now) (copied ∙ sym (bytes_same c.args.map.now (λ i h. c.fits-map i)))
