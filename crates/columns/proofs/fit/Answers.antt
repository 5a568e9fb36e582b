-- `columns::fit` meets its contract: a word fits that has no other bits (`fits_is`). Assumes nothing.
use Rattle.std.proofs.Common.{ℕ, ◌/◌, ◌^◌, eqb, ◌∙◌, rules}
use Rattle.std.proofs.lemmas.Iterator.{YieldsList-from_slice}
use Rattle.std.proofs.lemmas.Iterator.Search.{all_from_yields_List}
use Rattle.columns.proofs.Loops.{fits_is}
use Rattle.columns.proofs.fit.Goals as goal

pub returns : goal.returns
returns c =
    all_from_yields_List (λ (x : ℕ). eqb (x / 2 ^ c.args.b) 0) _ _ _ c.all.ensures.ran
    (YieldsList-from_slice c.args.words.now c.iter.ensures.rest) (λ x b q k. search rules)
    ∙ fits_is c.args.b c.args.words.now
