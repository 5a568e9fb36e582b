-- `columns::save_group` meets its contract. The loop's invariant: the odd bytes and k times eight are stored. Assumes nothing.
use Prim.Native.Nat.{ℕ, ◌+◌, ◌-◌, ◌*◌, ◌/◌, ◌%◌, ◌^◌, ◌≤◌}
use mathlib.Core.Path.{◌≡◌, ap, ◌∙◌}
use native.Mathlib.Omega.{arith}
use lib.ListN.{length, take}
use lib.Seq.{sets, length-sets, take_all}
use Rattle.columns.specs.Columns.{turned}
use Rattle.columns.specs.Packing.{unpacked}
use Rattle.columns.proofs.Turning.{length_turned}
use Rattle.columns.proofs.Parts.{eight_put, first_turned}
use Rattle.columns.proofs.save_group.Goals as goal

pub overflow_sub-odd : goal.overflow_sub-odd
overflow_sub-odd c = omega arith

pub overflow_shr-turned_words : goal.overflow_shr-turned_words
overflow_shr-turned_words c = omega arith

pub turned_words-requires : goal.turned_words-requires
turned_words-requires c = (omega (arith, c.requires.0), c.requires.1)

pub put_bytes-requires : goal.put_bytes-requires
put_bytes-requires c = omega (arith, c.requires.2)

pub loop-k-init : goal.loop-k-init
loop-k-init c =
    let a = c.args in
    let bytes = turned a.b a.group.now in
    let odd : a.b % 8 ≤ a.b = omega arith in
    let start : a.b % 8 ≡ a.b % 8 + 8 * 0 = omega arith in (
      omega arith,
      c.put_bytes.ensures
          ∙ ap (λ (x : ℕ). sets a.bytes.now a.to (unpacked (a.b % 8) (x / 256 / 2 ^ (56 - 8 * (a.b % 8))))) c.turned_words.ensures
          ∙ ap (sets a.bytes.now a.to) (first_turned a.b (a.b % 8) a.group.now c.requires.1 (omega arith) odd)
          ∙ ap (λ (p : ℕ). sets a.bytes.now a.to (take p bytes)) start,
    )

pub turned_words-requires-in-loop-k : goal.turned_words-requires-in-loop-k
turned_words-requires-in-loop-k c = (omega (arith, c.requires.0), c.requires.1)

pub put_bytes-requires-in-loop-k : goal.put_bytes-requires-in-loop-k
put_bytes-requires-in-loop-k c =
    let more = c.loop-k-test.true in
    let long : length c.loop-k.bytes ≡ length c.args.bytes.now = ap length c.loop-k.invariant.1 ∙ simp length-sets in
    omega (arith, c.requires.2)

pub loop-k-preserved : goal.loop-k-preserved
loop-k-preserved c =
    let a = c.args in
    let l = c.loop-k in
    let more = c.loop-k-test.true in
    let p = a.b % 8 + 8 * l.k in
    let next : p + 8 ≡ a.b % 8 + 8 * (l.k + 1) = omega arith in (
      omega arith,
      c.put_bytes-in-loop-k.ensures
          ∙ ap (λ (x : ℕ). sets l.bytes (a.to + p) (unpacked 8 x)) c.turned_words-in-loop-k.ensures
          ∙ eight_put a.b p a.to a.group.now a.bytes.now c.requires.1 (omega arith) l.invariant.1
          ∙ ap (λ (i : ℕ). sets a.bytes.now a.to (take i (turned a.b a.group.now))) next,
    )

pub shape_of-bytes : goal.shape_of-bytes
shape_of-bytes c = ap length c.loop-k.invariant.1 ∙ simp length-sets

pub returns : goal.returns
returns c =
    let a = c.args in
    let l = c.loop-k in
    let over = c.loop-k-test.false in
    let bytes = turned a.b a.group.now in
    l.invariant.1 ∙ ap (sets a.bytes.now a.to) (take_all (a.b % 8 + 8 * l.k) bytes (omega (arith, length_turned a.b a.group.now)))
