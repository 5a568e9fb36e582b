-- `hours::any_names` meets its contract: the chunks are the entries. Assumes nothing.
use mathlib.Core.Path.{◌∙◌}
use borrow.Author.Rules.{rules}
use lib.Dec.{eqb}
use Rattle.std.proofs.lemmas.Iterator.Search.{any_from_yields_List}
use Rattle.hours.specs.declared.Entry.{Entry}
use Rattle.hours.proofs.Walk.{entries_come, any_is}
use Rattle.hours.proofs.any_names.Goals as goal

pub returns : goal.returns
returns c =
    any_from_yields_List (λ (e : Entry). eqb e.name c.args.name) _ _ _ c.any.ensures.ran
    (entries_come _ _ c.requires c.chunks_exact.ensures.size c.chunks_exact.ensures.rest) (λ x b q k. search rules)
    ∙ any_is _ _
