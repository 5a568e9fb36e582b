-- `hours::all_keep` meets its contract: the chunks are the entries. Assumes nothing.
use mathlib.Core.Path.{◌∙◌}
use borrow.Author.Rules.{rules}
use Rattle.std.proofs.lemmas.Iterator.Search.{all_from_yields_List}
use Rattle.hours.specs.Hours.{keeps}
use Rattle.hours.proofs.Walk.{entries_come, all_is}
use Rattle.hours.proofs.all_keep.Goals as goal

pub returns : goal.returns
returns c =
    all_from_yields_List (keeps c.args.n) _ _ _ c.all.ensures.ran
    (entries_come _ _ c.requires c.chunks_exact.ensures.size c.chunks_exact.ensures.rest) (λ x b q k. search rules)
    ∙ all_is _ _
