-- `columns::row` meets its contract. The loop's invariant: so many bits are gathered. Assumes nothing.
use Prim.Native.Nat.{ℕ}
use mathlib.Core.List.{List}
use mathlib.Core.Path.{refl, ap, ◌∙◌}
use native.Mathlib.Omega.{arith}
use lib.ListN.{get_or}
use Rattle.columns.proofs.Bits.{gathered_none, gathered_more, gathered_all, gathered_small}
use Rattle.columns.proofs.Loops.{length_part, length_slice, slice_is}
use Rattle.columns.proofs.row.Goals as goal

pub loop-byte-init : goal.loop-byte-init
loop-byte-init c = let low = c.requires.0 in (omega arith, refl, omega arith, gathered_none _ _ _)

pub overflow_mul-made : goal.overflow_mul-made
overflow_mul-made c =
    let few = c.requires.1 in omega (arith, gathered_small _ _ _ c.loop-byte.invariant.3 48 (omega (arith, c.loop-byte.invariant.0)))

pub overflow_shr-made : goal.overflow_shr-made
overflow_shr-made c = let places = c.loop-byte.invariant.2 in omega arith

pub overflow_add-made : goal.overflow_add-made
overflow_add-made c =
    let few = c.requires.1 in omega (arith, gathered_small _ _ _ c.loop-byte.invariant.3 48 (omega (arith, c.loop-byte.invariant.0)))

pub loop-byte-preserved : goal.loop-byte-preserved
loop-byte-preserved c =
    let a = c.args in
    let l = c.loop-byte in
    let there = c.requires.2 in
    let part = length_part a.b a.bytes.now a.at there in
    let long = length_slice a.b a.bytes.now a.at there in (
      omega arith,
      l.invariant.1,
      l.invariant.2,
      gathered_more _ _ _ l.invariant.3 (omega arith)
          (c.from.ensures ∙ ap (λ (xs : List ℕ). get_or xs l.byte-index 0) (slice_is a.b a.bytes.now a.at there)) l.invariant.2,
    )

pub returns : goal.returns
returns c =
    let a = c.args in
    let over = c.loop-byte-test.false in
    let most = c.loop-byte.invariant.0 in
    let part = length_part a.b a.bytes.now a.at c.requires.2 in
    let long = length_slice a.b a.bytes.now a.at c.requires.2 in
    gathered_all _ _ _ c.loop-byte.invariant.3 (omega arith)
