-- `columns::with_bits` meets its contract. The loop's invariant: i words are made. Assumes nothing.
use Prim.Native.Nat.{ℕ, ◌*◌, ◌+◌, ◌%◌}
use mathlib.Core.Path.{refl, sym, ap, ◌∙◌}
use native.Mathlib.Omega.{arith}
use lib.ListN.{get_or}
use Rattle.word.proofs.Filling.{fills_none, whole_next, whole_all}
use Rattle.columns.proofs.Packing.{length_longer, longer_at, bytes_next}
use Rattle.columns.proofs.with_bits.Goals as goal

pub loop-i-init : goal.loop-i-init
loop-i-init c = let a = c.args in (omega arith, fills_none (length_longer a.group.now a.all ∙ c.requires.0) (omega arith))

pub bounds-group-i : goal.bounds-group-i
bounds-group-i c = let long = c.requires.0 in omega arith

pub overflow_mul-made : goal.overflow_mul-made
overflow_mul-made c = omega (arith, c.requires.1 c.loop-i.i)

pub overflow_add-made : goal.overflow_add-made
overflow_add-made c = omega (arith, c.requires.1 c.loop-i.i)

pub loop-i-preserved : goal.loop-i-preserved
loop-i-preserved c =
    let a = c.args in
    let l = c.loop-i in
    let more = c.loop-i-test.true in
    let long = c.requires.0 in
    let group = a.group.now in (
      bytes_next a.all l.i l.invariant.0,
      whole_next l.invariant.1 more 0 (ap (λ (k : ℕ). get_or group l.i 0 * 256 + k % 256) l.invariant.0
          ∙ sym (longer_at group a.all l.i (omega arith))),
    )

pub returns : goal.returns
returns c = whole_all c.loop-i.invariant.1 c.loop-i-test.false refl
