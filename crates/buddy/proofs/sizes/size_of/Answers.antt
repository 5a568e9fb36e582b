-- `size_of` gives the k-th size: a one shifted by k places. Assumes nothing.
use Rattle.std.proofs.Common.{ℕ, ◌%◌, ◌^◌, sym, ap, ◌∙◌, mod-eq_of_lt, one-mul, arith}
use lib.Pow.{pow-lt}
use Rattle.block.proofs.Size.{size_pow}
use Rattle.buddy.proofs.sizes.size_of.Goals as goal

pub returns : goal.returns
returns c =
    let k = c.args.k in
    ap (λ (n : ℕ). n % 2 ^ 64) (one-mul (2 ^ k)) ∙ mod-eq_of_lt (pow-lt {j = 64} (omega arith)) ∙ sym (size_pow k)
