-- `hours::first_holding` meets its contract: the chunks are the entries. Assumes nothing.
use Rattle.std.proofs.Common.{◌≡◌, ℕ, Option, Ok, ap, ◌∙◌, rules}
use Rattle.std.specs.Option.{option_map}
use Rattle.std.specs.Slice.Iter.{chunks_exact_rest, chunks_exact_size}
use Rattle.std.proofs.lemmas.Iterator.{YieldsList-from_map}
use Rattle.std.proofs.lemmas.Iterator.Search.{find_from_yields_List}
use Rattle.hours.specs.declared.Entry.{Entry}
use Rattle.hours.specs.Hours.{told_opening}
use Rattle.hours.proofs.Walk.{answering, row, entries_come, row_found}
use Rattle.hours.proofs.Answering.{search_told}
use Rattle.hours.proofs.first_holding.Goals as goal

pub returns-clause-value : goal.returns-clause-value
returns-clause-value c =
    let source = c.map.ensures.source in
    let found = find_from_yields_List (answering c.args.name c.args.minute) _ _ c.find.result c.find.ensures.ran
    (YieldsList-from_map _ (λ (e : Entry). e)
    (entries_come _ _ c.requires (ap chunks_exact_size source ∙ c.chunks_exact.ensures.size) (ap chunks_exact_rest source ∙ c.chunks_exact.ensures.rest))
    c.map.ensures.closure (λ x b q k. search rules)) (λ x b q k. search rules) in
    let rows : c.map-2.result ≡ option_map row c.find.result = search rules in
    rows ∙ row_found _ _ _ _ found

pub returns-clause-numbered : goal.returns-clause-numbered
returns-clause-numbered c = ap (λ (o : Option ℕ). told_opening (Ok o)) (returns-clause-value c) ∙ search_told _ _
