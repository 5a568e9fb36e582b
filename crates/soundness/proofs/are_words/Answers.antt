-- `soundness::are_words` meets its contract. The loop's invariant: the words are below 2 ^ b if what those passed are joined to and those
-- left are. Assumes nothing.
use Prim.Native.Nat.{ℕ, ◌+◌, ◌-◌, ◌*◌, ◌/◌, ◌^◌, ◌<◌}
use native.Mathlib.Omega.{arith}
use mathlib.Core.Path.{◌≡◌, sym, ap, ◌∙◌}
use mathlib.Core.List.{[]}
use borrow.Author.Tests.{lt-ltb}
use lib.Dec.{ltb}
use lib.ListN.{length, get_or, take, drop}
use lib.Pow.{pow_pos}
use Rattle.buddy.proofs.Halves.{upper}
use Rattle.buddy.proofs.Marks.{chunk_at}
use Rattle.machine.specs.Sound.{every}
use Rattle.machine.proofs.Every.{below}
use Rattle.soundness.proofs.Passed.{part_on, part_end}
use Rattle.soundness.proofs.are_words.Goals as goal

pub loop-part-init : goal.loop-part-init
loop-part-init c = rw (lt-ltb 0 (2 ^ c.args.b) (pow_pos c.args.b))

pub loop-part-preserved : goal.loop-part-preserved
loop-part-preserved c =
    let b = c.args.b in
    let words = c.args.words.now in
    let i = c.loop-part.part-index in
    let less : i < length words / 128 = omega (arith, c.loop-part-test.true, c.as_chunks.ensures.front_len) in
    let few : (i + 1) * 128 - i * 128 ≡ 128 = omega arith in
    let part : get_or c.as_chunks.result.0.now i [] ≡ take ((i + 1) * 128 - i * 128) (drop (i * 128) words) =
    rw (few, c.as_chunks.ensures.front) (chunk_at (length words / 128) i words less) in
    c.loop-part.invariant
    ∙ part_on b c.loop-part.all (i * 128) words ((i + 1) * 128) c.joined-all.result (omega arith)
    (c.joined-all.ensures b ∙ ap (every (below (2 ^ b))) part)

pub returns : goal.returns
returns c =
    let b = c.args.b in
    let words = c.args.words.now in
    let i = c.loop-part.part-index in
    let all : i ≡ length words / 128 =
    omega (arith, c.loop-part.auto.part-index-end, c.loop-part-test.false, c.as_chunks.ensures.front_len) in
    let last : c.as_chunks.result.1.now ≡ take (length words - i * 128) (drop (i * 128) words) =
    c.as_chunks.ensures.back ∙ ap (λ (k : ℕ). drop (k * 128) words) (sym all) ∙ sym (upper (i * 128) words) in
    let on = part_on b c.loop-part.all (i * 128) words (length words) c.joined.result (omega arith)
    (c.joined.ensures b ∙ ap (every (below (2 ^ b))) last) in
    rw c.power.ensures (sym (c.loop-part.invariant ∙ on ∙ part_end b _ (length words) words (omega arith)))
