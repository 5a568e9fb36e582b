-- `columns::turned_bytes` meets its contract. The loop's invariant: so many bytes are added up. Assumes nothing.
use Prim.Native.Nat.{ℕ}
use mathlib.Core.List.{List}
use mathlib.Core.Path.{ap, ◌∙◌}
use native.Mathlib.Omega.{arith}
use lib.ListN.{get_or}
use Rattle.columns.proofs.Packing.{added_none, added_room, added_more, added_all, spread_small}
use Rattle.columns.proofs.Loops.{length_part, length_slice, slice_is}
use Rattle.columns.proofs.turned_bytes.Goals as goal

pub loop-byte-init : goal.loop-byte-init
loop-byte-init c = (omega arith, added_none _)

pub overflow_mul-made : goal.overflow_mul-made
overflow_mul-made c =
    let a = c.args in
    let few = c.requires.0 in
    let long = length_slice a.n a.bytes.now a.at c.requires.1 in
    omega (arith, added_room _ c.loop-byte.invariant.1 (omega arith))

pub overflow_add-made : goal.overflow_add-made
overflow_add-made c =
    let a = c.args in
    let few = c.requires.0 in
    let long = length_slice a.n a.bytes.now a.at c.requires.1 in
    omega (arith, added_room _ c.loop-byte.invariant.1 (omega arith), spread_small c.from.result, c.spread.ensures)

pub loop-byte-preserved : goal.loop-byte-preserved
loop-byte-preserved c =
    let a = c.args in
    let l = c.loop-byte in
    let there = c.requires.1 in
    let part = length_part a.n a.bytes.now a.at there in
    let long = length_slice a.n a.bytes.now a.at there in (
      omega arith,
      added_more _ l.invariant.1 (omega arith)
          (c.from.ensures ∙ ap (λ (xs : List ℕ). get_or xs l.byte-index 0) (slice_is a.n a.bytes.now a.at there)) c.spread.ensures,
    )

pub returns : goal.returns
returns c =
    let a = c.args in
    let over = c.loop-byte-test.false in
    let most = c.loop-byte.invariant.0 in
    let part = length_part a.n a.bytes.now a.at c.requires.1 in
    let long = length_slice a.n a.bytes.now a.at c.requires.1 in
    added_all _ c.loop-byte.invariant.1 (omega arith)
