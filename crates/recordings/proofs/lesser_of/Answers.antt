-- `recordings::lesser_of` meets its contract: below the bound, or the lesser of what was found and the stop. Assumes nothing.
use Rattle.std.proofs.Common.{◌∙◌, sym, rules}
use Rattle.recordings.proofs.Stops.{lesser_below, lesser_is}
use Rattle.recordings.proofs.Telling.{lesser_tells}
use Rattle.recordings.proofs.lesser_of.Goals as goal

pub returns-then-not-is_after-clause-value : goal.returns-then-not-is_after-clause-value
returns-then-not-is_after-clause-value c = lesser_below _ _ c.args.found (sym c.is_after.ensures ∙ c.if-not-is_after.true)

pub returns-then-not-is_after-clause-numbered : goal.returns-then-not-is_after-clause-numbered
returns-then-not-is_after-clause-numbered c = lesser_tells _ _ _ (returns-then-not-is_after-clause-value c)

pub returns-clause-value : goal.returns-clause-value
returns-clause-value c = lesser_is _ c.args.stop _ _ c.args.found (sym c.is_after.ensures ∙ c.if-not-is_after.false) c.map_or.ensures (λ x is. search rules)

pub returns-clause-numbered : goal.returns-clause-numbered
returns-clause-numbered c = lesser_tells _ _ _ (returns-clause-value c)
