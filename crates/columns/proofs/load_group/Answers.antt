-- `columns::load_group` meets its contract. The loop's invariant: the words have the odd bits and k times eight. Assumes nothing.
use Prim.Native.Nat.{ℕ, ◌+◌, ◌*◌, ◌%◌, ◌^◌, ◌<◌}
use mathlib.Core.List.{List}
use mathlib.Core.Path.{◌≡◌, refl, sym, ap, subst, ◌∙◌}
use native.Mathlib.Omega.{arith}
use lib.ListN.{length, get_or, take, drop, replicate}
use Rattle.columns.specs.Columns.{turned}
use Rattle.columns.specs.Packing.{longer}
use Rattle.columns.proofs.Turning.{length_turned}
use Rattle.columns.proofs.Loops.{length_part}
use Rattle.columns.proofs.Parts.{zeros_small, first_longer, eight_longer, turned_small}
use Rattle.columns.proofs.load_group.Goals as goal

pub slice_bounds-with_bits-end : goal.slice_bounds-with_bits-end
slice_bounds-with_bits-end c = refl

pub turned_bytes-requires : goal.turned_bytes-requires
turned_bytes-requires c = (omega arith, omega (arith, c.requires.1))

pub with_bits-group-requires : goal.with_bits-group-requires
with_bits-group-requires c = (refl, zeros_small)

pub loop-k-init : goal.loop-k-init
loop-k-init c =
    let a = c.args in
    let there = c.requires.1 in
    let odd = a.b % 8 in
    let start : odd ≡ odd + 8 * 0 = omega arith in (
      omega arith,
      c.with_bits-group.ensures
          ∙ ap (longer (replicate 8 0)) c.turned_bytes.ensures
          ∙ first_longer (take odd (drop a.at a.bytes.now)) (omega (arith, length_part odd a.bytes.now a.at (omega arith)))
          ∙ ap (λ (p : ℕ). turned 8 (take p (drop a.at a.bytes.now))) start,
    )

pub slice_bounds-with_bits-end-in-loop-k : goal.slice_bounds-with_bits-end-in-loop-k
slice_bounds-with_bits-end-in-loop-k c = sym (ap length c.loop-k.invariant.1 ∙ length_turned 8 _)

pub turned_bytes-requires-in-loop-k : goal.turned_bytes-requires-in-loop-k
turned_bytes-requires-in-loop-k c =
    let more = c.loop-k-test.true in (omega arith, omega (arith, c.requires.1))

pub with_bits-group-requires-in-loop-k : goal.with_bits-group-requires-in-loop-k
with_bits-group-requires-in-loop-k c =
    let a = c.args in
    let l = c.loop-k in
    let there = c.requires.1 in
    let most = l.invariant.0 in
    let few = c.requires.0 in
    let p = a.b % 8 + 8 * l.k in (
      ap length l.invariant.1 ∙ length_turned 8 _,
      λ i.
          subst (λ (g : List ℕ). get_or g i 0 < 2 ^ 48) (sym l.invariant.1)
          (turned_small 8 (take p (drop a.at a.bytes.now)) 48 (omega (arith, length_part p a.bytes.now a.at (omega arith))) i),
    )

pub loop-k-preserved : goal.loop-k-preserved
loop-k-preserved c =
    let a = c.args in
    let l = c.loop-k in
    let more = c.loop-k-test.true in
    let there = c.requires.1 in
    let p = a.b % 8 + 8 * l.k in
    let next : p + 8 ≡ a.b % 8 + 8 * (l.k + 1) = omega arith in (
      omega arith,
      c.with_bits-group-in-loop-k.ensures
          ∙ ap (longer l.group) c.turned_bytes-in-loop-k.ensures
          ∙ eight_longer a.bytes.now a.at p (omega arith) l.invariant.1
          ∙ ap (λ (i : ℕ). turned 8 (take i (drop a.at a.bytes.now))) next,
    )

pub returns : goal.returns
returns c =
    let a = c.args in
    let over = c.loop-k-test.false in
    let most = c.loop-k.invariant.0 in
    let same : a.b % 8 + 8 * c.loop-k.k ≡ a.b = omega arith in
    c.loop-k.invariant.1 ∙ ap (λ (i : ℕ). turned 8 (take i (drop a.at a.bytes.now))) same
