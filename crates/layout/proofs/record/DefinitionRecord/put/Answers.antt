-- `layout::record::DefinitionRecord::put` meets its contract: four numbers of one byte, put one after the other, stand in a row (`four_row`).
-- Assumes nothing.
use mathlib.Core.Bool.{Bool, true, false, cond}
use mathlib.Core.Path.{◌≡◌, refl, ap, ◌∙◌}
use mir.Val.{bool_byte}
use Prim.Native.Nat.{ℕ}
use Rattle.octets.proofs.RoundTrip.{length_bytes}
use Rattle.octets.specs.Octets.{bytes_of}
use Rattle.machine.specs.Storage.{placed}
use Rattle.layout.specs.Layout.{bytes_of_definition}
use Rattle.layout.proofs.Placing.{number_placed, four_row}
use Rattle.layout.proofs.record.DefinitionRecord.put.Goals as goal

flag : (t : Bool) → bool_byte t ≡ cond t 1 0
flag true = refl
flag false = refl

pub returns-clause-bytes_after : goal.returns-clause-bytes_after
unfolding bytes_of_definition
returns-clause-bytes_after c =
    let x = c.args.self in
    let at = c.args.at in
    let t = c.args.bytes.now in
    let defined = number_placed at 1 _ _ c.put_number.ensures ∙ ap (λ (v : ℕ). placed at (bytes_of 1 v) t) (flag x.defined) in
    let row = four_row at 1 1 1 (bytes_of 1 (cond x.defined 1 0)) (bytes_of 1 x.word) (bytes_of 1 x.left) t (length_bytes 1 _) (length_bytes 1 _)
    (length_bytes 1 _) 1 (bytes_of 1 x.right) (length_bytes 1 _) defined (number_placed _ 1 _ _ c.put_number-2.ensures)
    (number_placed _ 1 _ _ c.put_number-3.ensures) (number_placed _ 1 _ _ c.put_number-4.ensures) c.requires in
    row.put.same
