-- `lines::arguments::all_arguments` meets its contract: the library's parts are those of the specs. Assumes nothing.
use mathlib.Core.Path.{ap, ◌∙◌}
use lib.Dec.{eqb}
use Rattle.std.proofs.Common.{rules, tests}
use Rattle.std.proofs.lemmas.Iterator.Search.{all_from_yields_List}
use Rattle.std.proofs.lemmas.Iterator.Splits.{YieldsList-from_slice_split}
use Rattle.lines.specs.Words.{all}
use Rattle.lines.specs.Forms.{is_argument}
use Rattle.lines.proofs.Library.{all_lem, split_lem}
use Rattle.lines.proofs.arguments.all_arguments.Goals as goal

pub returns : goal.returns
returns c =
    all_from_yields_List is_argument _ _ _ c.all.ensures.ran
    (YieldsList-from_slice_split _ (λ x. eqb x 44) c.args.s.now c.split.ensures.rest c.split.ensures.done c.split.ensures.closure
    (λ x b q k. search (rules, tests))) (λ x b q k. search (rules, tests))
    ∙ all_lem is_argument _ ∙ ap (all is_argument) (split_lem c.args.s.now)
