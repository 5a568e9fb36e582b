-- `lines::words::word_end` meets its contract: as many bytes are taken as come first. Assumes nothing.
use Rattle.std.proofs.Common.{◌-◌, length, take, drop, rules, tests}
use Rattle.std.proofs.lemmas.Iterator.{YieldsList-from_slice}
use Rattle.std.proofs.lemmas.Iterator.Consumers.{count_from_yields_List}
use Rattle.std.proofs.lemmas.Iterator.Search.{YieldsList-from_take_while}
use Rattle.lines.specs.Words.{is_name}
use Rattle.lines.proofs.Parts.{ends}
use Rattle.lines.proofs.words.word_end.Goals as goal

pub returns : goal.returns
returns c =
    let rest = take (length c.args.text.now - c.args.at) (drop c.args.at c.args.text.now) in
    ends is_name _ _ (count_from_yields_List c.take_while.result _ c.count.ensures.ran
    (YieldsList-from_take_while _ is_name (YieldsList-from_slice rest cc) c.take_while.ensures.closure c.take_while.ensures.done
    (λ x b q k. search (rules, tests))))
