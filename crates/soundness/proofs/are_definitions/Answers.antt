-- `soundness::are_definitions` meets its contract. Assumes nothing.
use mathlib.Core.Path.{◌∙◌}
use borrow.Author.Rules.{rules}
use Rattle.std.proofs.lemmas.Iterator.{YieldsList-from_slice}
use Rattle.std.proofs.lemmas.Iterator.Search.{all_from_yields_List}
use Rattle.machine.specs.Sound.{is_definition}
use Rattle.soundness.proofs.Passed.{all_is_every}
use Rattle.soundness.proofs.are_definitions.Goals as goal

pub returns : goal.returns
returns c =
    all_from_yields_List (is_definition c.args.b) _ _ _ c.all.ensures.ran (YieldsList-from_slice c.args.definitions.now cc) (λ x b q k. search rules)
    ∙ all_is_every (is_definition c.args.b) c.args.definitions.now
