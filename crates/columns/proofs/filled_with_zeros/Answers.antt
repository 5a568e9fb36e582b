-- `columns::filled_with_zeros` meets its contract: the words from n on are zeros (`zeros_are`). Assumes nothing.
use Rattle.std.proofs.Common.{ℕ, ◌*◌, ◌-◌, length, get_or, eqb, refl, ◌∙◌, arith, rules}
use Rattle.std.proofs.lemmas.Iterator.{YieldsList-from_range}
use Rattle.std.proofs.lemmas.Iterator.Search.{all_from_yields_List}
use Rattle.columns.specs.Columns.{turned_groups}
use Rattle.columns.proofs.Loops.{zeros_are}
use Rattle.columns.proofs.Turning.{length_groups}
use Rattle.columns.proofs.filled_with_zeros.Goals as goal

pub returns : goal.returns
returns c =
    let all = turned_groups 8 c.args.b c.args.groups c.args.bytes.now in
    all_from_yields_List (λ (i : ℕ). eqb (get_or all i 0) 0) _ _ _ c.all.ensures.ran
    (YieldsList-from_range c.args.n (c.args.groups * 8) (length all - c.args.n) refl (omega (arith, length_groups 8 c.args.b c.args.groups c.args.bytes.now)))
    (λ x b q k. search rules)
    ∙ zeros_are all c.args.n
