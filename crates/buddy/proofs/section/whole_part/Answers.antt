-- `whole_part` tests the tags of the trees in a part. The loop's invariant: where less than 2 is left of the tags passed, their trees are one
-- block each. Assumes nothing.
use Rattle.std.proofs.Common.{ℕ, ◌%◌, ◌^◌, sym, ap, ◌∙◌, mod-eq_of_lt, one-mul, arith, ltb-true}
use lib.Pow.{pow-lt}
use Rattle.block.proofs.Size.{size_pow, size_pos}
use Rattle.buddy.proofs.Whole.{tags_next}
use Rattle.buddy.proofs.section.whole_part.Goals as goal

pub loop-i-init : goal.loop-i-init
loop-i-init c =
    let k = c.args.k in
    (ap (λ (x : ℕ). x % 2 ^ 8) (one-mul (2 ^ k)) ∙ mod-eq_of_lt (pow-lt {j = 8} (omega arith)) ∙ sym (size_pow k), omega arith, λ h i l. absurd (omega arith))

pub off_tag-all-requires : goal.off_tag-all-requires
off_tag-all-requires c = (omega arith, omega (arith, c.loop-i.invariant.0, size_pos c.args.k))

pub loop-i-preserved : goal.loop-i-preserved
loop-i-preserved c =
    let inv = c.loop-i.invariant in
    let next = tags_next c.args.k c.loop-i.i _ c.args.part.now c.loop-i.all c.off_tag-all.result inv.0 c.off_tag-all.ensures inv.2 in
    (inv.0, omega arith, next)

pub returns : goal.returns
returns c = λ h i l. c.loop-i.invariant.2 (ltb-true _ _ h) i (omega (arith, c.loop-i-test.false))
