-- `columns::put_bytes` meets its contract. The loop's invariant: the first i bytes are stored. Assumes nothing.
use Prim.Native.Nat.{ℕ, ◌%◌}
use mathlib.Core.Path.{sym, ap, ◌∙◌}
use native.Mathlib.Omega.{arith}
use Rattle.word.proofs.Filling.{fills_none, fills_next}
use Rattle.columns.proofs.Packing.{length_unpacked, unpacked_at, bytes_next}
use Rattle.columns.proofs.Writing.{fills_sets}
use Rattle.columns.proofs.put_bytes.Goals as goal

pub loop-i-init : goal.loop-i-init
loop-i-init c = (omega arith, fills_none (length_unpacked c.args.n c.args.all) c.requires)

pub loop-i-preserved : goal.loop-i-preserved
loop-i-preserved c =
    let a = c.args in
    let l = c.loop-i in
    let more = c.loop-i-test.true in (
      bytes_next a.all l.i l.invariant.0,
      fills_next l.invariant.1 more 0 (ap (λ (k : ℕ). k % 256) l.invariant.0 ∙ sym (unpacked_at a.n a.all l.i more)),
    )

pub shape_of-bytes : goal.shape_of-bytes
shape_of-bytes c = c.loop-i.invariant.1.long

pub returns : goal.returns
returns c = fills_sets c.loop-i.invariant.1 c.loop-i-test.false
